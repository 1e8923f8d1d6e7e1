use Rattle.std.proofs.Common.{arith}
use Rattle.std.proofs.lemmas.Result.{err_from_is_err_and}
use Rattle.reader.proofs.Names.{no_order, order_in_rest, order_ends, order_all}
use Rattle.reader.proofs.scan.Text.order.Goals as goal

pub returns-in_err-expect_var : goal.returns-in_err-expect_var
returns-in_err-expect_var c =
    let e = c.in_err-expect_var.ensures in
    let p = err_from_is_err_and c.from_residual.result c.from_residual.ensures.1 in
    rw (p.1, p.2, e.0) (no_order _ _ (omega arith) (e.1 (omega arith)))

pub returns-in_err-end : goal.returns-in_err-end
returns-in_err-end c =
    let v = c.in_ok-expect_var.ensures in
    let p = err_from_is_err_and c.from_residual-in_err-end.result c.from_residual-in_err-end.ensures.1 in
    rw (p.1, p.2) (order_in_rest _ _ v.0 v.1 _ c.in_err-end.ensures)

pub returns-then-end-self : goal.returns-then-end-self
returns-then-end-self c =
    let v = c.in_ok-expect_var.ensures in
    order_ends _ _ v.0 v.1 _ c.in_ok-end.ensures c.if-end-self.true

pub returns : goal.returns
returns c =
    let v = c.in_ok-expect_var.ensures in
    order_all _ _ v.0 v.1 _ c.in_ok-end.ensures c.if-end-self.false
