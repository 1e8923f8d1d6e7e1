use Rattle.model.proofs.Central.{meaning}
use Rattle.model.proofs.OneAnswer.{one_answer}
use Rattle.model.proofs.Promised.{promises}
use Rattle.model.proofs.promises_hold.Goals as goal

pub returns : goal.returns
returns g c = promises _ (meaning _) one_answer
