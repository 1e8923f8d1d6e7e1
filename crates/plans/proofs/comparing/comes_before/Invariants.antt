use Rattle.std.proofs.Common.{◌≡◌, drop}
use Rattle.model.specs.Running.{before}
use Rattle.plans.proofs.comparing.comes_before.Given as goal

abbrev pub invariant-loop-i : goal.invariant-loop-i
invariant-loop-i l = before l.a l.b ≡ before (drop l.i l.a) (drop l.i l.b)
