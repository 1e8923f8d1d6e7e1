use Rattle.std.proofs.Common.{arith}
use Rattle.lines.proofs.Describing.{left_described, order_described, table_described, table_room}
use Rattle.lines.proofs.Placing.{line_length}
use Rattle.lines.proofs.line.describe.Goals as goal

pub overflow_sub-order : goal.overflow_sub-order
overflow_sub-order c = let p = c.requires in omega (arith, p.2.order, line_length c.args.text.now p.0 p.1)

pub returns-clause-described : goal.returns-clause-described
returns-clause-described c = λ l h g.
    record {
      stands = g;
      left = left_described c.args.text.now c.args.parsed.now l h g;
      order = order_described c.args.text.now c.args.parsed.now l h g;
      table = table_described c.args.text.now c.args.parsed.now l h g _ _ c.new-accesses.ensures c.collect.ensures;
      room = table_room c.args.text.now c.args.parsed.now l h g _ _ c.new-accesses.ensures c.collect.ensures;
    }
