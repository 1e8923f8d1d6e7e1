use Rattle.std.proofs.Common.{sym, ◌∙◌, arith}
use Rattle.plans.proofs.Compares.{before_ends, before_all, before_differ, before_more}
use Rattle.plans.proofs.comparing.comes_before.Goals as goal

pub returns-then-i-b : goal.returns-then-i-b
returns-then-i-b c = sym (c.loop-i.invariant ∙ before_ends c.args.a.now c.args.b.now c.loop-i.i (omega arith) (omega arith))

pub returns-then-a-i : goal.returns-then-a-i
returns-then-a-i c = sym (c.loop-i.invariant ∙ before_differ c.args.a.now c.args.b.now c.loop-i.i (omega arith) (omega arith) c.if-a-i.true)

pub loop-i-preserved : goal.loop-i-preserved
loop-i-preserved c = c.loop-i.invariant ∙ before_more c.args.a.now c.args.b.now c.loop-i.i (omega arith) (omega arith) c.if-a-i.false

pub returns : goal.returns
returns c = sym (c.loop-i.invariant ∙ before_all c.args.a.now c.args.b.now c.loop-i.i (omega arith))
