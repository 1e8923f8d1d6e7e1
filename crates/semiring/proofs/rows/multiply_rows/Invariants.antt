use Rattle.std.proofs.Common.{◌≡◌, ◌++◌, map, length, take, drop}
use Rattle.model.specs.Semirings.{zipped}
use Rattle.semiring.proofs.rows.multiply_rows.Given as goal

abbrev pub invariant-loop-i : goal.invariant-loop-i
invariant-loop-i g l =
    let k = g.V.Semiring in
    let n = length l.yielded in
    l.out ≡ take n (map k.stored (zipped k.algebra.product (map k.reads l.a) (map k.reads l.b))) ++ drop n l.initial.out
