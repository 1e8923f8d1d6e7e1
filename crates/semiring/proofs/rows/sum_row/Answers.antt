use Rattle.std.proofs.Common.{map, ap, ◌∙◌}
use Rattle.std.proofs.lemmas.List.{length-map}
use Rattle.model.specs.Semirings.{total}
use Rattle.semiring.proofs.Steps.{total_more, total_all, item_read}
use Rattle.semiring.proofs.rows.sum_row.Goals as goal

pub loop-x-init : goal.loop-x-init
loop-x-init g c =
    let k = g.V.Semiring in
    ap (λ s. k.algebra.sum s (total k.algebra (map k.reads c.args.row.now))) c.zero-sum.ensures ∙ g.met.V.Semiring.laws.sum_zero _

pub loop-x-preserved : goal.loop-x-preserved
loop-x-preserved g c =
    let f = g.V.Semiring.reads in
    let row = c.args.row.now in
    let item = c.read-value.ensures ∙ item_read f row c.loop-x.x-index _ c.read-value.result c.loop-x-test.true c.x-item.is in
    rw c.add-sum.ensures (total_more g.met.V.Semiring.laws (map f row) _ _ _ (simp length-map c.loop-x-test.true) item ∙ c.loop-x.invariant)

pub returns : goal.returns
returns g c = total_all g.met.V.Semiring.laws (map g.V.Semiring.reads c.args.row.now) _ _ _ (simp length-map c.loop-x-test.false) c.loop-x.invariant
