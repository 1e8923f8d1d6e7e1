use Rattle.model.proofs.OneAnswer.{one_answer}
use Rattle.model.proofs.one_answer.Goals as goal

pub returns : goal.returns
returns c = one_answer
