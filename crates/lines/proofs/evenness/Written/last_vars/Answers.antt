use Rattle.std.proofs.Common.{sym, ◌∙◌}
use Rattle.lines.proofs.NodeVars.{last_none, last_plus, last_other}
use Rattle.lines.proofs.evenness.Written.last_vars.Goals as goal

pub returns-in_default : goal.returns-in_default
returns-in_default c = last_none _ _ _ c.new.result c.in_default.ensures

pub returns-in-Plus : goal.returns-in-Plus
returns-in-Plus c = last_plus _ _ _ _ _ _ c.vars.result (sym c.in-Some.ensures.0 ∙ c.in-Plus.is) c.vars.ensures

pub returns-in_default-node : goal.returns-in_default-node
returns-in_default-node c = last_other _ _ _ c.vars-in_default-node.result (λ p j k e. c.in_default-node.not-Plus p j k (c.in-Some.ensures.0 ∙ e)) c.vars-in_default-node.ensures
