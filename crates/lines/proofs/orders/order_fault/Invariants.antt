use Rattle.model.specs.Grammar.{Vars}
use Rattle.reader.specs.Lists.{vars_of}
use Rattle.reader.specs.Walked.{left}
use Rattle.lines.proofs.Ordering.{Passed}
use Rattle.lines.proofs.orders.order_fault.Given as goal

abbrev pub invariant-loop-place : goal.invariant-loop-place
invariant-loop-place l = Vars (vars_of l.text l.fn.order) → Passed l.text l.fn.order (left l.place-iterator) l.used l.seen
