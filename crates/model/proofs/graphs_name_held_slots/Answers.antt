use Rattle.model.proofs.NamedSlots.{named}
use Rattle.model.proofs.graphs_name_held_slots.Goals as goal

pub returns : goal.returns
returns c = named
