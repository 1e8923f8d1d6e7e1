use Rattle.std.proofs.Common.{◌≡◌, map, length, drop}
use Rattle.tensors.specs.Fillings.{scattered}
use Rattle.tensors.proofs.values.fill_values.Given as goal

abbrev pub invariant-loop-position : goal.invariant-loop-position
invariant-loop-position g l =
    let k = length l.yielded in
    scattered l.positions (map g.V.Semiring.reads l.entries) (map g.V.Semiring.reads l.initial.values)
    ≡ scattered (drop k l.positions) (drop k (map g.V.Semiring.reads l.entries)) (map g.V.Semiring.reads l.values)
