use Rattle.std.proofs.Common.{sym}
use Rattle.lines.proofs.Rules.{unordered_rule}
use Rattle.lines.proofs.line.Syntax.out_of_order.Goals as goal

pub returns : goal.returns
returns c = λ l h d. unordered_rule c.args.text.now c.args.self.now l h d _ (rw (sym c.as_slice.ensures) c.first_unordered.ensures)
