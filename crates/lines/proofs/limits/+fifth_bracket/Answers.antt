use Rattle.std.proofs.Common.{sym, ◌∙◌}
use Rattle.lines.proofs.Bracketing.{deep_none, deep_access, deep_over, deep_group, deep_chain}
use Rattle.lines.proofs.limits.+fifth_bracket.Goals as goal

pub returns-in-Access : goal.returns-in-Access
returns-in-Access t c = deep_access _ _ _ _ _ _ (sym c.in_ok-get.ensures.0 ∙ c.in-Access.is)

pub returns-then-depth-ge4 : goal.returns-then-depth-ge4
returns-then-depth-ge4 t c = deep_over _ _ _ _ _ (sym c.in_ok-get.ensures.0 ∙ c.in-Group.is) c.if-depth-ge4.true

pub returns-else-depth-ge4 : goal.returns-else-depth-ge4
returns-else-depth-ge4 t c = deep_group _ _ _ _ _ _ (sym c.in_ok-get.ensures.0 ∙ c.in-Group.is) c.if-depth-ge4.false c.fifth_bracket.ensures

pub returns-in-Times : goal.returns-in-Times
returns-in-Times t c = deep_chain _ _ _ _ _ _ c.in_ok-get.ensures.0 c.in-Times.is _ _ _ c.fifth_bracket-before.ensures c.fifth_bracket-in-Times.ensures c.or.ensures

pub returns-in_err-get : goal.returns-in_err-get
returns-in_err-get t c = rw c.from_residual.ensures (deep_none _ _ _ c.in_err-get.ensures)
