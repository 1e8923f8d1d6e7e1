use Rattle.plans.specs.Rooms.{rules_of}
use Rattle.rack.specs.Racks.{seen}
use Rattle.rack.proofs.Performing.{SoFar}
use Rattle.rack.proofs.rack.Rack.perform.Given as goal

abbrev pub invariant-loop-i : goal.invariant-loop-i
invariant-loop-i g l =
    let k = g.V.Semiring in
    let f = g.S.Formats in
    SoFar k.algebra k.reads (rules_of f.wants f.births) f.meaning (seen l.initial.self) l.calls l.initial.answers l.i (seen l.self) l.answers
