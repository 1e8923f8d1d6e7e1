use Rattle.std.proofs.Common.{◌<◌, rules, map, set, sym, refl, ap, ◌∙◌, length, arith}
use Rattle.std.proofs.lemmas.List.{length-map, length_push}
use Rattle.std.proofs.lemmas.Iterator.{YieldsList-from_slice, YieldsList-from_zip}
use Rattle.std.proofs.lemmas.Iterator.Consumers.{YieldsList-from_enumerate, YieldsList-turn, YieldsList-end}
use Rattle.model.specs.Semirings.{zipped}
use Rattle.semiring.proofs.Steps.{over_more, over_all, item_read, length_products, product_read, numbered_pair, numbered_pairs}
use Rattle.semiring.proofs.rows.multiply_rows.Goals as goal

pub offset_bounds-out-i : goal.offset_bounds-out-i
offset_bounds-out-i g c =
    let a = c.args.a.now in
    let b = c.args.b.now in
    let i = length c.loop-i.yielded in
    let t = YieldsList-turn (YieldsList-from_enumerate {s = c.into_iter-i-iterator.result} (YieldsList-from_zip (YieldsList-from_slice a cc) (YieldsList-from_slice b cc)) (cc)) c.loop-i.yielded c.loop-i.i-iterator c.loop-i.yielded_by c.next.result c.next.new.self (c.in-Some.i, (c.in-Some.x, c.in-Some.y)) c.in-Some.is c.next.ensures.steps in
    let at = numbered_pair a b i c.in-Some.i c.in-Some.x.now c.in-Some.y.now t.0 t.1 in
    let h : c.in-Some.i < length c.args.out.now = omega (arith, at.0, at.1, c.if-out-a.false) in
    search rules

pub loop-i-preserved : goal.loop-i-preserved
loop-i-preserved g c =
    let k = g.V.Semiring in
    let a = c.args.a.now in
    let b = c.args.b.now in
    let i = length c.loop-i.yielded in
    let t = YieldsList-turn (YieldsList-from_enumerate {s = c.into_iter-i-iterator.result} (YieldsList-from_zip (YieldsList-from_slice a cc) (YieldsList-from_slice b cc)) (cc)) c.loop-i.yielded c.loop-i.i-iterator c.loop-i.yielded_by c.next.result c.next.new.self (c.in-Some.i, (c.in-Some.x, c.in-Some.y)) c.in-Some.is c.next.ensures.steps in
    let at = numbered_pair a b i c.in-Some.i c.in-Some.x.now c.in-Some.y.now t.0 t.1 in
    let z = zipped k.algebra.product (map k.reads a) (map k.reads b) in
    let n = length_products k.algebra.product k.reads a b c.if-a-b.false in
    let m = length-map z k.stored in
    let y = product_read k.algebra.product k.reads a b i at.1 at.2 at.3 at.4 c.read.ensures c.read-in-loop-i.ensures c.mul.ensures in
    let is = c.plain.ensures ∙ item_read k.stored z i c.mul.result c.plain.result (omega arith) y in
    rw (length_push c.loop-i.yielded (c.in-Some.i, (c.in-Some.x, c.in-Some.y)), at.0) (
    ap (λ s. set s i c.plain.result) c.loop-i.invariant ∙ over_more (map k.stored z) c.args.out.now i c.plain.result (omega arith) (omega (arith, at.1)) is)

pub returns : goal.returns
returns g c =
    let k = g.V.Semiring in
    let a = c.args.a.now in
    let b = c.args.b.now in
    let z = zipped k.algebra.product (map k.reads a) (map k.reads b) in
    let n = length-map z k.stored ∙ length_products k.algebra.product k.reads a b c.if-a-b.false in
    let t = YieldsList-end (YieldsList-from_enumerate {s = c.into_iter-i-iterator.result} (YieldsList-from_zip (YieldsList-from_slice a cc) (YieldsList-from_slice b cc)) (cc)) c.loop-i.yielded c.loop-i.i-iterator c.loop-i.yielded_by c.next.result c.next.new.self c.in-None.is c.next.ensures.steps in
    let all = numbered_pairs a b in
    (refl, sym c.if-a-b.false, c.if-out-a.false, over_all (map k.stored z) c.args.out.now _ (length c.loop-i.yielded) (length a) c.loop-i.invariant n (omega (arith, t.1, all)) (omega (arith, t.1, all)))
