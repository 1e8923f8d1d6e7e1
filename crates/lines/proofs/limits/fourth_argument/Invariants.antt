use Rattle.std.proofs.Common.{◌≡◌, drop}
use Rattle.std.specs.List.{flat_map}
use Rattle.model.specs.Conditions.{first_fault}
use Rattle.lines.specs.Limits.{crowded}
use Rattle.lines.proofs.limits.fourth_argument.Given as goal

abbrev pub invariant-loop-access : goal.invariant-loop-access
invariant-loop-access l = first_fault (flat_map (λ e. crowded l.text e.vars) (drop l.access-index l.accesses)) ≡ first_fault (flat_map (λ e. crowded l.text e.vars) l.accesses)
