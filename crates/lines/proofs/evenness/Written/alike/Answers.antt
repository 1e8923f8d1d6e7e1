use Rattle.lines.proofs.NodeVars.{alike_not, alike_both}
use Rattle.std.proofs.Common.{true}
use Rattle.lines.proofs.evenness.Written.alike.Goals as goal

pub returns-then-includes : goal.returns-then-includes
returns-then-includes c = alike_both _ _ _ _ c.last_vars-before.result c.vars-behind.result c.last_vars-before.ensures c.vars-behind.ensures true _ c.if-includes.ensures c.includes-then-includes.ensures

pub returns-else-includes : goal.returns-else-includes
returns-else-includes c = alike_not _ _ _ _ c.last_vars-before.result c.vars-behind.result c.last_vars-before.ensures c.vars-behind.ensures c.includes.result c.if-includes.false c.includes.ensures
