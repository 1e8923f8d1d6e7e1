use Rattle.std.proofs.Common.{◌≡◌, map, drop}
use Rattle.model.specs.Semirings.{total}
use Rattle.semiring.proofs.rows.sum_row.Given as goal

abbrev pub invariant-loop-x : goal.invariant-loop-x
invariant-loop-x g l =
    let k = g.V.Semiring in
    let values = map k.reads l.row in
    k.algebra.sum l.sum (total k.algebra (drop l.x-index values)) ≡ total k.algebra values
