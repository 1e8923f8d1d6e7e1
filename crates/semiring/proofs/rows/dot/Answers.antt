use Rattle.std.proofs.Common.{map, ap, ◌∙◌, length, arith}
use Rattle.std.proofs.lemmas.List.{length_push}
use Rattle.std.proofs.lemmas.Slice.Zip.{zip_turn, zip_end}
use Rattle.model.specs.Semirings.{total, zipped}
use Rattle.semiring.proofs.Steps.{total_more, total_all, length_products, product_read}
use Rattle.semiring.proofs.rows.dot.Goals as goal

pub loop-x-init : goal.loop-x-init
loop-x-init g c =
    let k = g.V.Semiring in
    let z = zipped k.algebra.product (map k.reads c.args.a.now) (map k.reads c.args.b.now) in
    ap (λ s. k.algebra.sum s (total k.algebra z)) c.zero-sum.ensures ∙ g.met.V.Semiring.laws.sum_zero _

pub loop-x-preserved : goal.loop-x-preserved
loop-x-preserved g c =
    let k = g.V.Semiring in
    let a = c.args.a.now in
    let b = c.args.b.now in
    let i = length c.loop-x.yielded in
    let z = zipped k.algebra.product (map k.reads a) (map k.reads b) in
    let n = length_products k.algebra.product k.reads a b c.if-a-b.false in
    let at = zip_turn a b c.loop-x.yielded c.into_iter-x-iterator.result c.loop-x.x-iterator c.next.new.self c.next.result (cc) (cc) c.loop-x.yielded_by _ c.in-Some.is c.next.ensures.steps in
    let y = product_read k.algebra.product k.reads a b i at.0 at.1 (at.2 _) (at.3 _) c.read.ensures c.read-in-loop-x.ensures c.mul.ensures in
    rw (c.add-sum.ensures, length_push c.loop-x.yielded (c.in-Some.x, c.in-Some.y)) (total_more g.met.V.Semiring.laws z i _ _ (omega arith) y ∙ c.loop-x.invariant)

pub returns : goal.returns
returns g c =
    let k = g.V.Semiring in
    let a = c.args.a.now in
    let b = c.args.b.now in
    let z = zipped k.algebra.product (map k.reads a) (map k.reads b) in
    let n = length_products k.algebra.product k.reads a b c.if-a-b.false in
    let all = zip_end a b c.loop-x.yielded c.into_iter-x-iterator.result c.loop-x.x-iterator c.next.new.self c.next.result (cc) (cc) c.loop-x.yielded_by c.in-None.is c.next.ensures.steps in
    (c.if-a-b.false, total_all g.met.V.Semiring.laws z _ _ _ (omega arith) c.loop-x.invariant)
