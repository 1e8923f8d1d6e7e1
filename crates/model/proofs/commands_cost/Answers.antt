use Rattle.model.proofs.CommandCosts.{command_costs}
use Rattle.model.proofs.commands_cost.Goals as goal

pub returns : goal.returns
returns g c = command_costs _
