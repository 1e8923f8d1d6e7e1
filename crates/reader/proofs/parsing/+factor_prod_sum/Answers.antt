use Rattle.std.proofs.Common.{arith}
use Rattle.std.proofs.lemmas.Result.{err_from_is_err_and}
use Rattle.reader.proofs.Parts.{read_stops, grown_on, a_times, a_plus, join_read, join_grown, join_failed, no_factor, in_access, an_access, in_group, unclosed, a_group}
use Rattle.reader.proofs.parsing.+factor_prod_sum.Goals as goal

pub factor-returns-in_err-end : goal.factor-returns-in_err-end
factor-returns-in_err-end t c =
    let l = c.if-sees_slot.ensures in
    let p = err_from_is_err_and c.from_residual.result c.from_residual.ensures.1 in
    rw (p.1, p.2) (in_access _ _ l.0 l.1 _ c.in_err-end.ensures)

pub factor-returns-then-sees_slot : goal.factor-returns-then-sees_slot
factor-returns-then-sees_slot t c =
    let l = c.if-sees_slot.ensures in
    an_access _ _ l.0 l.1 _ c.in_ok-end.ensures _ _ _ c.push-root.ensures

pub factor-returns-in_err-expect : goal.factor-returns-in_err-expect
factor-returns-in_err-expect t c =
    let e = c.in_err-expect.ensures in
    let p = err_from_is_err_and c.from_residual-in_err-expect.result c.from_residual-in_err-expect.ensures.1 in
    rw (p.1, p.2, e.0) (no_factor _ _ c.requires.within c.if-sees_slot.ensures e.1)

pub factor-returns-in_err-inner : goal.factor-returns-in_err-inner
factor-returns-in_err-inner t c =
    let o = c.in_ok-expect.ensures in
    let p = err_from_is_err_and c.from_residual-in_err-inner.result c.from_residual-in_err-inner.ensures.1 in
    rw (p.1, p.2) (in_group _ _ o.0 o.1 _ c.in_err-inner.ensures)

pub factor-returns-in_err-expect-2 : goal.factor-returns-in_err-expect-2
factor-returns-in_err-expect-2 t c =
    let o = c.in_ok-expect.ensures in
    let e = c.in_err-expect-2.ensures in
    let p = err_from_is_err_and c.from_residual-in_err-expect-2.result c.from_residual-in_err-expect-2.ensures.1 in
    rw (p.1, p.2, e.0) (unclosed _ _ o.0 o.1 _ _ _ c.in_ok-inner.ensures e.1)

pub factor-returns : goal.factor-returns
factor-returns t c =
    let o = c.in_ok-expect.ensures in
    let e = c.in_ok-expect-2.ensures in
    a_group _ _ o.0 o.1 _ _ _ c.in_ok-inner.ensures _ _ e.0 e.1 c.push-root-2.ensures

pub prod-returns-in_err-right : goal.prod-returns-in_err-right
prod-returns-in_err-right t c =
    let o = c.factors-test.ensures in
    let p = err_from_is_err_and c.from_residual-in_err-right.result c.from_residual-in_err-right.ensures.1 in
    rw (p.1, p.2) (join_failed a_times _ _ _ _ c.factors.invariant.0 o.0 o.1 _ c.in_err-right.ensures)

pub prod-factors-preserved : goal.prod-factors-preserved
prod-factors-preserved t c =
    let o = c.factors-test.ensures in
    let g = c.in_ok-right.ensures in
    let i = c.factors.invariant in (
      join_read a_times _ _ _ _ i.0 o.0 o.1 _ _ _ _ g c.push-root.ensures,
      join_grown a_times _ _ _ _ i.0 o.0 o.1 _ _ _ _ _ _ i.1 g c.push-root.ensures,
      omega (arith, i.2, g.grown.few, c.push-root.ensures.len),
    )

pub sum-returns-in_err-right : goal.sum-returns-in_err-right
sum-returns-in_err-right t c =
    let o = c.terms-test.ensures in
    let p = err_from_is_err_and c.from_residual-in_err-right.result c.from_residual-in_err-right.ensures.1 in
    rw (p.1, p.2) (join_failed a_plus _ _ _ _ c.terms.invariant.0 o.0 o.1 _ c.in_err-right.ensures)

pub sum-terms-preserved : goal.sum-terms-preserved
sum-terms-preserved t c =
    let o = c.terms-test.ensures in
    let g = c.in_ok-right.ensures in
    let i = c.terms.invariant in (
      join_read a_plus _ _ _ _ i.0 o.0 o.1 _ _ _ _ g c.push-root.ensures,
      join_grown a_plus _ _ _ _ i.0 o.0 o.1 _ _ _ _ _ _ i.1 g c.push-root.ensures,
      omega (arith, i.2, g.grown.few, c.push-root.ensures.len),
    )

pub prod-returns : goal.prod-returns
prod-returns t c =
    let i = c.factors.invariant in
    record {
      read = read_stops i.0 (record { times = λ n. c.factors-test.ensures; plus = λ n. absurd (omega arith) });
      grown = grown_on c.in_ok-left.ensures.grown i.1;
    }

pub sum-returns : goal.sum-returns
sum-returns t c =
    let i = c.terms.invariant in
    record {
      read = read_stops i.0 (record { times = λ n. i.0.stops.times (omega arith); plus = λ n. c.terms-test.ensures });
      grown = grown_on c.in_ok-left.ensures.grown i.1;
    }
