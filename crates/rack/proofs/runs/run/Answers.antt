use Rattle.plans.specs.Rooms.{rules_of}
use Rattle.rack.specs.Racks.{seen}
use Rattle.rack.proofs.Kept.{kept}
use Rattle.rack.proofs.runs.run.Goals as goal

pub returns : goal.returns
returns g c =
    let k = g.V.Semiring in
    let f = g.S.Formats in
    record {
      right = c.in_ok-rack.ensures.0;
      start = seen c.in_ok-rack.rack;
      fresh = c.in_ok-rack.ensures.1;
      promise =
          kept k.algebra k.reads (rules_of f.wants f.births) f.meaning g.met.V.Semiring.laws g.met.V.Semiring.test (seen c.in_ok-rack.rack) _ (seen c.perform.new.self)
          c.in_ok-rack.ensures.2 c.perform.ensures.0;
      unasked = c.perform.ensures.1;
    }
