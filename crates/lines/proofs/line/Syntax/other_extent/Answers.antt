use Rattle.std.proofs.Common.{sym}
use Rattle.lines.specs.Given.{slots_of}
use Rattle.lines.proofs.Rules.{extents_rule}
use Rattle.lines.proofs.line.Syntax.other_extent.Goals as goal

pub returns : goal.returns
returns c = λ l h d. extents_rule c.args.text.now c.args.self.now l h d (slots_of c.args.slots.now) _ (rw (sym c.as_slice.ensures) c.first_differing.ensures)
