use Rattle.model.proofs.SmallGraphs.{small_graphs}
use Rattle.model.proofs.graph_bounds.Goals as goal

pub returns : goal.returns
returns c = small_graphs
