use Rattle.std.proofs.lemmas.Result.{err_from_is_err_and}
use Rattle.reader.proofs.Wholes.{bad_head, bad_sum, no_semicolon, bad_order, a_line, ordered_line}
use Rattle.reader.proofs.parsing.parse.Goals as goal

pub returns-in_err-body-clause-tree : goal.returns-in_err-body-clause-tree
returns-in_err-body-clause-tree c =
    let p = err_from_is_err_and c.from_residual.result c.from_residual.ensures.1 in
    rw (p.1, p.2) (bad_head _ c.if-text-gt256.false _ c.in_err-body.ensures)

pub returns-in_err-part-clause-tree : goal.returns-in_err-part-clause-tree
returns-in_err-part-clause-tree c =
    let p = err_from_is_err_and c.from_residual-in_err-part.result c.from_residual-in_err-part.ensures.1 in
    rw (p.1, p.2) (bad_sum _ c.if-text-gt256.false _ c.in_ok-body.ensures _ c.in_err-part.ensures)

pub returns-in_err-expect-clause-tree : goal.returns-in_err-expect-clause-tree
returns-in_err-expect-clause-tree c =
    let e = c.in_err-expect.ensures in
    let p = err_from_is_err_and c.from_residual-in_err-expect.result c.from_residual-in_err-expect.ensures.1 in
    rw (p.1, p.2, e.0) (no_semicolon _ c.if-text-gt256.false _ c.in_ok-body.ensures _ _ _ c.in_ok-part.ensures e.1)

pub returns-in_err-order-clause-tree : goal.returns-in_err-order-clause-tree
returns-in_err-order-clause-tree c =
    let e = c.in_ok-expect.ensures in
    let p = err_from_is_err_and c.from_residual-in_err-order.result c.from_residual-in_err-order.ensures.1 in
    rw (p.1, p.2) (bad_order _ c.if-text-gt256.false _ c.in_ok-body.ensures _ _ _ c.in_ok-part.ensures e.0 e.1 _ c.in_err-order.ensures)

pub returns-clause-tree : goal.returns-clause-tree
returns-clause-tree c =
    let e = c.in_ok-expect.ensures in
    a_line _ c.if-text-gt256.false _ c.in_ok-body.ensures _ _ _ c.in_ok-part.ensures e.0 e.1 c.new-arena.ensures c.in_ok-order.ensures

pub returns-clause-ordered : goal.returns-clause-ordered
returns-clause-ordered c =
    let e = c.in_ok-expect.ensures in
    ordered_line _ c.if-text-gt256.false _ c.in_ok-body.ensures _ _ _ c.in_ok-part.ensures e.0 e.1 c.new-arena.ensures
