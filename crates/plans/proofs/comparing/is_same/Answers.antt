use Rattle.std.proofs.Common.{sym, ◌∙◌, arith}
use Rattle.plans.proofs.Compares.{same_differ, same_more, same_all}
use Rattle.plans.proofs.comparing.is_same.Goals as goal

pub returns-then-a-i : goal.returns-then-a-i
returns-then-a-i c = sym (c.loop-i.invariant ∙ same_differ c.args.a.now c.args.b.now c.loop-i.i (omega arith) (omega arith) c.if-a-i.true)

pub loop-i-preserved : goal.loop-i-preserved
loop-i-preserved c = c.loop-i.invariant ∙ same_more c.args.a.now c.args.b.now c.loop-i.i (omega arith) (omega arith) c.if-a-i.false

pub returns : goal.returns
returns c = sym (c.loop-i.invariant ∙ same_all c.args.a.now c.args.b.now c.loop-i.i (omega arith) (omega arith))
