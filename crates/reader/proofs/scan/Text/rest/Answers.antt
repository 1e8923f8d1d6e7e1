use Rattle.std.proofs.lemmas.Result.{err_from_is_err_and}
use Rattle.reader.proofs.Names.{rest_fails, rest_more}
use Rattle.reader.proofs.scan.Text.rest.Goals as goal

pub returns-in_err-expect_var : goal.returns-in_err-expect_var
returns-in_err-expect_var c =
    let i = c.names.invariant in
    let at = c.names-test.ensures in
    let e = c.in_err-expect_var.ensures in
    let p = err_from_is_err_and c.from_residual.result c.from_residual.ensures.1 in
    rw (p.1, p.2, e.0) (rest_fails _ _ _ i.0 i.1 i.2 at.0 at.1 e.1)

pub names-preserved : goal.names-preserved
names-preserved c =
    let i = c.names.invariant in
    let at = c.names-test.ensures in
    let v = c.in_ok-expect_var.ensures in
    rest_more _ _ _ i.0 i.1 i.2 at.0 at.1 v.0 v.1
