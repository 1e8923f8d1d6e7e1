use Rattle.std.proofs.Common.{sym, ap, ◌∙◌}
use Rattle.std.specs.Option.{option_or}
use Rattle.lines.proofs.Terms.{even_none, even_access, even_group, even_times, even_plus}
use Rattle.lines.proofs.evenness.Written.+uneven_sum.Goals as goal

pub returns-in-Access : goal.returns-in-Access
returns-in-Access t c = even_access _ _ _ _ _ _ _ (sym c.in_ok-get.ensures.0 ∙ c.in-Access.is)

pub returns-in-Group : goal.returns-in-Group
returns-in-Group t c = even_group _ _ _ _ _ _ _ (sym c.in_ok-get.ensures.0 ∙ c.in-Group.is) c.uneven_sum.ensures

pub returns-in-Times : goal.returns-in-Times
returns-in-Times t c = even_times _ _ _ _ _ _ _ _ _ (sym c.in_ok-get.ensures.0 ∙ c.in-Times.is) c.uneven_sum-before.ensures c.uneven_sum-in-Times.ensures c.or.ensures

pub returns-in-Plus : goal.returns-in-Plus
returns-in-Plus t c =
    even_plus _ _ _ _ _ _ _ _ _ _ _ (sym c.in_ok-get.ensures.0 ∙ c.in-Plus.is) c.uneven_sum-before-in-Plus.ensures c.uneven_plus-here.ensures c.uneven_sum-in-Plus.ensures
    (c.or-in-Plus-2.ensures ∙ ap (λ o. option_or o c.uneven_sum-in-Plus.result) c.or-in-Plus.ensures)

pub returns-in_err-get : goal.returns-in_err-get
returns-in_err-get t c = rw c.from_residual.ensures (even_none _ _ _ _ c.in_err-get.ensures)
