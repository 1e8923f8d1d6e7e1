use Rattle.model.proofs.Central.{agreement}
use Rattle.model.proofs.agreement_holds.Goals as goal

pub returns : goal.returns
returns g c = agreement _
