use Rattle.std.proofs.lemmas.Result.{err_from_is_err_and}
use Rattle.reader.proofs.Names.{no_args, empty_args, no_first_var, args_in_rest, args_unclosed, args_closed}
use Rattle.reader.proofs.scan.Text.args.Goals as goal

pub returns-in_err-expect : goal.returns-in_err-expect
returns-in_err-expect c =
    let e = c.in_err-expect.ensures in
    let p = err_from_is_err_and c.from_residual.result c.from_residual.ensures.1 in
    rw (p.1, p.2, e.0) (no_args _ _ c.requires e.1)

pub returns-then-sees : goal.returns-then-sees
returns-then-sees c =
    let o = c.in_ok-expect.ensures in
    let e = c.if-sees.ensures in
    empty_args _ _ o.0 o.1 e.0 e.1

pub returns-in_err-expect_var : goal.returns-in_err-expect_var
returns-in_err-expect_var c =
    let o = c.in_ok-expect.ensures in
    let e = c.in_err-expect_var.ensures in
    let p = err_from_is_err_and c.from_residual-in_err-expect_var.result c.from_residual-in_err-expect_var.ensures.1 in
    rw (p.1, p.2, e.0) (no_first_var _ _ o.0 o.1 c.if-sees.ensures e.1)

pub returns-in_err-end : goal.returns-in_err-end
returns-in_err-end c =
    let o = c.in_ok-expect.ensures in
    let v = c.in_ok-expect_var.ensures in
    let p = err_from_is_err_and c.from_residual-in_err-end.result c.from_residual-in_err-end.ensures.1 in
    rw (p.1, p.2) (args_in_rest _ _ o.0 o.1 v.0 v.1 _ c.in_err-end.ensures)

pub returns-in_err-expect-2 : goal.returns-in_err-expect-2
returns-in_err-expect-2 c =
    let o = c.in_ok-expect.ensures in
    let v = c.in_ok-expect_var.ensures in
    let e = c.in_err-expect-2.ensures in
    let p = err_from_is_err_and c.from_residual-in_err-expect-2.result c.from_residual-in_err-expect-2.ensures.1 in
    rw (p.1, p.2, e.0) (args_unclosed _ _ o.0 o.1 v.0 v.1 _ c.in_ok-end.ensures e.1)

pub returns : goal.returns
returns c =
    let o = c.in_ok-expect.ensures in
    let v = c.in_ok-expect_var.ensures in
    let e = c.in_ok-expect-2.ensures in
    args_closed _ _ o.0 o.1 v.0 v.1 _ c.in_ok-end.ensures e.0 e.1
