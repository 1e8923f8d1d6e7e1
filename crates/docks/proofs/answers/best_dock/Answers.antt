use Rattle.std.proofs.Common.{None, Some, rules, sym, ap, ◌∙◌, arith, false-eqb}
use borrow.Author.Tests.{tests}
use Rattle.std.proofs.lemmas.Iterator.{YieldsList-from_slice}
use Rattle.std.proofs.lemmas.Iterator.Search.{position_from_yields_List}
use Rattle.docks.proofs.Bests.{takes, best}
use Rattle.docks.proofs.answers.best_dock.Goals as goal

pub returns-in_err-i : goal.returns-in_err-i
returns-in_err-i c =
    let least = c.least_time-least in
    let ds = c.docks.result.now in
    let sought = position_from_yields_List (takes least.result.value) _ _ c.position.result c.position.ensures.ran (YieldsList-from_slice ds cc) (λ x b q k. search (rules, tests)) in
    rw c.from_residual.ensures (best ds _ least.result.value None c.docks.ensures.value least.ensures.least least.result.fits (false-eqb _ _ c.if-is_zero.ensures) (sym c.in_err-i.was ∙ sought))

pub returns : goal.returns
returns c =
    let least = c.least_time-least in
    let ds = c.docks.result.now in
    let sought = position_from_yields_List (takes least.result.value) _ _ c.position.result c.position.ensures.ran (YieldsList-from_slice ds cc) (λ x b q k. search (rules, tests)) in
    best ds _ least.result.value (Some _) c.docks.ensures.value least.ensures.least least.result.fits (false-eqb _ _ c.if-is_zero.ensures) (ap Some (omega arith) ∙ sym c.in_ok-i.was ∙ sought)
