use Rattle.std.proofs.Common.{ap, ◌∙◌}
use Rattle.reader.specs.Walked.{left}
use Rattle.lines.proofs.Ordering.{meets_start}
use Rattle.lines.proofs.orders.in_order.Goals as goal

pub loop-var-init : goal.loop-var-init
loop-var-init c = meets_start c.args.text.now c.args.order c.args.vars _ _ (ap left c.into_iter-var-iterator.ensures.into_iter_gives ∙ c.vars-var-items.ensures) c.vars-left.ensures
