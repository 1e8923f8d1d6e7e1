use Rattle.lines.proofs.NodeVars.{has_vars}
use Rattle.lines.proofs.evenness.Written.vars.Goals as goal

pub returns : goal.returns
returns c = has_vars _ _ _ c.new-set.result c.add_vars.new.set c.new-set.ensures c.add_vars.ensures
