use Rattle.std.proofs.Common.{◌≡◌, suc, ◌-◌, arith}
use Rattle.levels.proofs.two.TwoFormats.build.Goals as goal

pub returns-then-number-eq0 : goal.returns-then-number-eq0
returns-then-number-eq0 g c = rw c.if-number-eq0.true c.build.ensures.outcome

pub returns-else-number-eq0 : goal.returns-else-number-eq0
returns-else-number-eq0 g c =
    let e : c.args.number ≡ suc (c.args.number - 1) = omega arith in rw e c.build-else-number-eq0.ensures.outcome
