use Rattle.model.proofs.Central.{well_shaped}
use Rattle.model.proofs.graphs_are_well_shaped.Goals as goal

pub returns : goal.returns
returns g c = well_shaped _
