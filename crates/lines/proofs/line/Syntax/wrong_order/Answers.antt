use Rattle.lines.proofs.Rules.{order_rule}
use Rattle.lines.proofs.line.Syntax.wrong_order.Goals as goal

pub returns : goal.returns
returns c = λ l h d. order_rule c.args.text.now c.args.self.now l h d c.vars-used.result _ c.vars-used.ensures c.order_fault.ensures
