use Rattle.std.proofs.Common.{◌<◌, length, get_or, sym, subst, arith}
use Rattle.lines.specs.Sets.{With}
use Rattle.lines.proofs.Counting.{counted_none, counted_all, counted_skips, new_var, fifth_found, counted_on}
use Rattle.lines.proofs.limits.fifth_variable.Goals as goal
use Rattle.lines.proofs.limits.fifth_variable.Goals.{then-is_new+else-count-ge4, else-is_new}

pub loop-place-init : goal.loop-place-init
loop-place-init c = counted_none _ _ c.new-seen.ensures

pub returns-then-count-ge4 : goal.returns-then-count-ge4
returns-then-count-ge4 c = fifth_found _ _ _ _ c.loop-place.invariant (omega arith) c.if-is_new.ensures (omega arith)

pub loop-place-preserved : goal.loop-place-preserved
loop-place-preserved c =
    let h : c.loop-place.place < length c.args.text.now = omega arith in
    elim c.if-is_new.branch [
      | then-is_new+else-count-ge4 w ↦
          counted_on c.args.text.now c.loop-place.place c.loop-place.seen c.loop-place.count c.loop-place.invariant h w.if-is_new.ensures c.if-is_new.seen _ w.if-count-ge4.false w.count-is
          (subst (With c.loop-place.seen (get_or c.args.text.now c.loop-place.place 0)) (sym w.seen-is) (w.insert.ensures (new_var _ _ _ _ c.loop-place.invariant h w.if-is_new.ensures)))
      | else-is_new w ↦ counted_skips _ _ _ _ c.loop-place.invariant h _ _ w.seen-is w.count-is w.if-is_new.ensures
    ]

pub returns : goal.returns
returns c = counted_all _ _ _ _ c.loop-place.invariant (omega arith)
