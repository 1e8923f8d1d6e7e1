use Rattle.rack.proofs.Kept.{agreement}
use Rattle.rack.proofs.runs.compare.Goals as goal

pub returns : goal.returns
returns g c =
    record {
      first = c.run-first.ensures;
      second = c.run-second.ensures;
      agreement = λ s t. agreement _ g.met.V.Semiring.laws g.met.V.Semiring.test _ _ _ _ _ s t _ _;
    }
