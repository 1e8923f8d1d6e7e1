use Rattle.model.proofs.Central.{meaning, agreement}
use Rattle.model.proofs.Promised.{agreements}
use Rattle.model.proofs.agreements_hold.Goals as goal

pub returns : goal.returns
returns g c = agreements _ (meaning _) (agreement _)
