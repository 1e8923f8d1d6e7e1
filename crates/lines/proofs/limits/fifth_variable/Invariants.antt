use Rattle.lines.proofs.Counting.{Counted}
use Rattle.lines.proofs.limits.fifth_variable.Given as goal

abbrev pub invariant-loop-place : goal.invariant-loop-place
invariant-loop-place l = Counted l.text l.place l.seen l.count
