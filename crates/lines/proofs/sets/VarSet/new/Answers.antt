use Rattle.std.proofs.Common.{◌-◌}
use Rattle.lines.proofs.Members.{all_false}
use Rattle.lines.proofs.sets.VarSet.new.Goals as goal

pub returns : goal.returns
returns c = λ v h. all_false 26 (v - 97)
