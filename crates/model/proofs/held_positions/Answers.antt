use Rattle.model.proofs.HeldPositions.{held_positions}
use Rattle.model.proofs.held_positions.Goals as goal

pub returns : goal.returns
returns g c = held_positions _
