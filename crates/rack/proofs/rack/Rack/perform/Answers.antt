use Rattle.std.proofs.Common.{◌≡◌, ◌<◌, min, length, subst, ◌∙◌, arith}
use Rattle.std.proofs.lemmas.List.{get_or-take, length-take}
use Rattle.plans.specs.Rooms.{rules_of}
use Rattle.rack.specs.Racks.{seen}
use Rattle.rack.proofs.Performing.{SoFar, so_far_none, so_far_more, so_far_all}
use Rattle.rack.proofs.rack.Rack.perform.Goals as goal

pub loop-i-init : goal.loop-i-init
loop-i-init g c = so_far_none _ _ _ _ _ _ _

pub loop-i-preserved : goal.loop-i-preserved
loop-i-preserved g c =
    let front = length-take c.min-n.result c.args.calls.now in
    let within : c.loop-i.i < length c.args.calls.now = omega (arith, c.loop-i-test.true, c.min-n.ensures, front) in
    let room : c.loop-i.i < length c.loop-i.answers = omega (arith, c.loop-i-test.true, c.min-n.ensures, c.loop-i.auto.answers, front) in
    let below : c.loop-i.i < c.min-n.result = omega (arith, c.loop-i-test.true, front) in
    so_far_more _ _ _ _ _ _ _ _ _ _ _ _ _ within room (c.call-item.is ∙ get_or-take c.min-n.result c.args.calls.now c.loop-i.i c.call-item.result below) c.loop-i.invariant c.call.ensures

pub returns : goal.returns
returns g c =
    let k = g.V.Semiring in
    let f = g.S.Formats in
    let all : c.loop-i.i ≡ min (length c.args.calls.now) (length c.args.answers.now) =
    omega (arith, c.loop-i-test.false, c.loop-i.auto.i-end, c.min-n.ensures, length-take c.min-n.result c.args.calls.now) in
    so_far_all _ _ _ _ _ _ _ _ _ c.loop-i.auto.answers
    (subst (λ n. SoFar k.algebra k.reads (rules_of f.wants f.births) f.meaning (seen c.args.self.now) c.args.calls.now c.args.answers.now n (seen c.loop-i.self) c.loop-i.answers) all c.loop-i.invariant)
