use Rattle.std.proofs.Common.{sym}
use Rattle.lines.specs.Given.{slots_of}
use Rattle.lines.proofs.Rules.{repeats_rule, misfit_rule}
use Rattle.lines.proofs.line.Syntax.wrong_access.Goals as goal

pub returns-then-repeats_one : goal.returns-then-repeats_one
returns-then-repeats_one c = λ l h d. repeats_rule c.args.text.now c.args.self.now l h d (slots_of c.args.slots.now) c.if-repeats_one.ensures

pub returns : goal.returns
returns c = λ l h d. misfit_rule c.args.text.now c.args.self.now l h d (slots_of c.args.slots.now) _ c.if-repeats_one.ensures (rw (sym c.as_slice.ensures) c.first_misfit.ensures)
