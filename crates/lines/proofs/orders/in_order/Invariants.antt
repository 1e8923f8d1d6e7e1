use Rattle.model.specs.Tensors.{has, same}
use Rattle.model.specs.Terms.{kept}
use Rattle.reader.specs.Lists.{vars_of}
use Rattle.reader.specs.Walked.{left}
use Rattle.lines.proofs.Ordering.{Meets}
use Rattle.lines.proofs.orders.in_order.Given as goal

abbrev pub invariant-loop-var : goal.invariant-loop-var
invariant-loop-var l = Meets (has (vars_of l.text l.vars)) (left l.var-iterator) (left l.left) (same (kept (has (vars_of l.text l.vars)) (vars_of l.text l.fn.order)) (vars_of l.text l.vars))
