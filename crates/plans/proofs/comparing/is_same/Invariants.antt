use Rattle.std.proofs.Common.{◌≡◌, drop}
use Rattle.model.specs.Tensors.{same}
use Rattle.plans.proofs.comparing.is_same.Given as goal

abbrev pub invariant-loop-i : goal.invariant-loop-i
invariant-loop-i l = same l.a l.b ≡ same (drop l.i l.a) (drop l.i l.b)
