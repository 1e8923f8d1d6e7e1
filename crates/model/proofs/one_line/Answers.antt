use Rattle.model.proofs.OneLine.{one_line}
use Rattle.model.proofs.one_line.Goals as goal

pub returns : goal.returns
returns c = one_line
