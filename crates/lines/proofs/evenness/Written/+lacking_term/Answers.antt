use Rattle.std.proofs.Common.{sym, ap, ◌∙◌, arith}
use Rattle.std.specs.Option.{option_or}
use Rattle.lines.proofs.FirstFaults.{lacks_is}
use Rattle.lines.proofs.Terms.{terms_none, terms_other, terms_plus}
use Rattle.lines.proofs.evenness.Written.+lacking_term.Goals as goal

pub returns-in-Plus : goal.returns-in-Plus
returns-in-Plus t c =
    terms_plus _ _ _ c.args.left.now _ _ _ _ _ _ _ _ (sym c.in_ok-place.ensures.0 ∙ c.in-Plus.is) (λ lt. omega (arith, c.saturating_add.ensures)) c.lacking_term-before.ensures c.has_left.ensures
    (c.or.ensures ∙ ap (option_or _) (c.then_some-last.ensures ∙ lacks_is _ _))

pub returns-in_default : goal.returns-in_default
returns-in_default t c =
    rw (c.then_some.ensures ∙ lacks_is _ _) (terms_other _ _ _ c.args.left.now _ _ (λ p j k e. c.in_default.not-Plus p j k (c.in_ok-place.ensures.0 ∙ e)) c.has_left-in_default.ensures)

pub returns-in_err-place : goal.returns-in_err-place
returns-in_err-place t c = rw c.from_residual.ensures (terms_none _ _ _ c.args.left.now _ c.in_err-place.ensures)
