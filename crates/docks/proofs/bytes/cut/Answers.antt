use Rattle.std.proofs.Common.{ℕ, ◌+◌, not, eqb, take, drop, rules, sym, ap, ◌∙◌, arith}
use borrow.Author.Tests.{tests}
use Rattle.std.proofs.lemmas.List.{take_rest}
use Rattle.std.proofs.lemmas.Iterator.{YieldsList-from_slice}
use Rattle.std.proofs.lemmas.Iterator.Search.{position_from_yields_List}
use Rattle.std.proofs.lemmas.List.Sums.{prefix_len-le-length}
use Rattle.docks.proofs.Cuts.{sought_none, sought_some}
use Rattle.docks.proofs.bytes.cut.Goals as goal

pub returns-in_err-n : goal.returns-in_err-n
returns-in_err-n c =
    let p = λ (x : ℕ). eqb x c.args.stop in
    let bs = c.args.bytes.now in
    let sought = position_from_yields_List p _ _ c.position.result c.position.ensures.ran (YieldsList-from_slice bs cc) (λ x b q k. search (rules, tests)) in
    rw c.from_residual.ensures (omega (arith, sought_none p bs (sym c.in_err-n.was ∙ sought), prefix_len-le-length (λ x. not (p x)) bs))

pub returns : goal.returns
returns c =
    let p = λ (x : ℕ). eqb x c.args.stop in
    let bs = c.args.bytes.now in
    let n = c.in_ok-n.n in
    let sought = position_from_yields_List p _ _ c.position.result c.position.ensures.ran (YieldsList-from_slice bs cc) (λ x b q k. search (rules, tests)) in
    let at = sought_some p bs n (sym c.in_ok-n.was ∙ sought) in
    (at.1, ap (λ k. take k bs) at.0, take_rest bs (n + 1) ∙ ap (λ k. drop (k + 1) bs) at.0)
