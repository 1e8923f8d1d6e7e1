use Rattle.model.proofs.Central.{meaning}
use Rattle.model.proofs.meaning_holds.Goals as goal

pub returns : goal.returns
returns g c = meaning _
