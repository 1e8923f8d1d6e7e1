use Rattle.model.proofs.RunGrowth.{only_adds}
use Rattle.model.proofs.runs_only_add.Goals as goal

pub returns : goal.returns
returns g c = only_adds _
