use Rattle.lines.proofs.Terms.{term_has}
use Rattle.lines.proofs.evenness.Written.has_left.Goals as goal

pub returns : goal.returns
returns c = term_has _ _ _ c.args.left.now c.vars.result _ c.vars.ensures c.includes.ensures
