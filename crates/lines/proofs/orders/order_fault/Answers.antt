use Rattle.std.proofs.Common.{ap, ◌∙◌}
use Rattle.reader.specs.Walked.{left}
use Rattle.lines.proofs.FirstFaults.{then_some_is}
use Rattle.lines.proofs.Ordering.{passed_none, stray_found, passed_on, order_whole}
use Rattle.lines.proofs.orders.order_fault.Goals as goal

pub loop-place-init : goal.loop-place-init
loop-place-init c = λ vars.
    passed_none c.args.text.now c.args.order (left c.into_iter-place-iterator.result) c.args.used.now c.new-seen.result (ap left c.into_iter-place-iterator.ensures.into_iter_gives ∙ c.vars-place-items.ensures) vars c.new-seen.ensures

pub returns-then-strays : goal.returns-then-strays
returns-then-strays c = λ vars us are su.
    stray_found c.args.text.now c.args.order (left c.loop-place.place-iterator) c.args.used.now c.loop-place.seen (c.loop-place.invariant vars) (c.in-Some.place, c.in-Some.var) (left c.next.new.self) c.in-Some.ensures.steps c.if-strays.ensures us su

pub loop-place-preserved : goal.loop-place-preserved
loop-place-preserved c = λ vars.
    passed_on c.args.text.now c.args.order (left c.loop-place.place-iterator) c.args.used.now c.loop-place.seen (c.loop-place.invariant vars) (c.in-Some.place, c.in-Some.var) (left c.next.new.self) c.in-Some.ensures.steps c.insert.new.self c.if-strays.ensures c.insert.ensures

pub returns : goal.returns
returns c = λ vars us are su.
    c.then_some.ensures ∙ then_some_is _ _
    ∙ order_whole c.args.text.now c.args.order (left c.loop-place.place-iterator) c.args.used.now c.loop-place.seen (c.loop-place.invariant vars) c.in-None.ensures.steps.0 us are su c.includes.result c.includes.ensures
