use Rattle.model.proofs.LeftKeys.{writes_keys}
use Rattle.model.proofs.writes_have_left_keys.Goals as goal

pub returns : goal.returns
returns c = writes_keys
