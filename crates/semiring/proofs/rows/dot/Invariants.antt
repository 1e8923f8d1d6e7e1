use Rattle.std.proofs.Common.{◌≡◌, map, drop, length}
use Rattle.model.specs.Semirings.{total, zipped}
use Rattle.semiring.proofs.rows.dot.Given as goal

abbrev pub invariant-loop-x : goal.invariant-loop-x
invariant-loop-x g l =
    let k = g.V.Semiring in
    let products = zipped k.algebra.product (map k.reads l.a) (map k.reads l.b) in
    k.algebra.sum l.sum (total k.algebra (drop (length l.yielded) products)) ≡ total k.algebra products
