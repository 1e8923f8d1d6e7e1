use Rattle.model.proofs.Worked.{at_its_length}
use Rattle.model.proofs.worked_fault.Goals as goal

pub returns : goal.returns
returns c = at_its_length
