use Rattle.std.proofs.Common.{sym}
use Rattle.lines.proofs.Rules.{limits_rule}
use Rattle.lines.proofs.line.Syntax.over_limits.Goals as goal

pub returns : goal.returns
returns c = λ l h d.
    limits_rule c.args.text.now c.args.self.now l h d _ _ _ _ _ _ _
    (rw (sym c.as_slice-accesses.ensures) c.ninth.ensures) c.fifth_variable.ensures (rw (sym c.as_slice-accesses.ensures) c.fourth_argument-argument.ensures) c.fifth_bracket-bracket.ensures
    c.left_of.ensures c.left_of-2.ensures c.left_of-3.ensures
