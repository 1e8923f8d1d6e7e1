use Rattle.std.proofs.Common.{◌≡◌, take, replicate}
use Rattle.tensors.proofs.values.fill.Given as goal

abbrev pub invariant-loop-place : goal.invariant-loop-place
invariant-loop-place g l = take l.place-index l.values ≡ replicate l.place-index l.value
