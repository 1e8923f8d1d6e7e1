use Rattle.model.proofs.HeldPayloads.{held_payloads}
use Rattle.model.proofs.held_payloads.Goals as goal

pub returns : goal.returns
returns g c = held_payloads _
