use Rattle.std.proofs.lemmas.Result.{err_from_is_err_and}
use Rattle.reader.proofs.Wholes.{no_head, head_in_args, no_sign}
use Rattle.reader.proofs.scan.Text.head.Goals as goal

pub returns-in_err-expect : goal.returns-in_err-expect
returns-in_err-expect c =
    let e = c.in_err-expect.ensures in
    let p = err_from_is_err_and c.from_residual.result c.from_residual.ensures.1 in
    rw (p.1, p.2, e.0) (no_head _ e.1)

pub returns-in_err-end : goal.returns-in_err-end
returns-in_err-end c =
    let l = c.in_ok-expect.ensures in
    let p = err_from_is_err_and c.from_residual-in_err-end.result c.from_residual-in_err-end.ensures.1 in
    rw (p.1, p.2) (head_in_args _ l.0 l.1 _ c.in_err-end.ensures)

pub returns-in_err-expect-2 : goal.returns-in_err-expect-2
returns-in_err-expect-2 c =
    let l = c.in_ok-expect.ensures in
    let e = c.in_err-expect-2.ensures in
    let p = err_from_is_err_and c.from_residual-in_err-expect-2.result c.from_residual-in_err-expect-2.ensures.1 in
    rw (p.1, p.2, e.0) (no_sign _ l.0 l.1 _ c.in_ok-end.ensures e.1)
