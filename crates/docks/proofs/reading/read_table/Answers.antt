use Rattle.std.proofs.Common.{◌+◌, ap, ◌∙◌, arith, true-eqb, false-eqb}
use Rattle.std.proofs.lemmas.Result.{err_from_is_err_and}
use Rattle.docks.specs.Tables.{says}
use Rattle.docks.specs.Views.{entries, entry_of}
use Rattle.docks.proofs.Sofar.{one_more, at_fault, at_end}
use Rattle.docks.proofs.reading.read_table.Goals as goal

pub loop-rest-smaller : goal.loop-rest-smaller
loop-rest-smaller c = c.next_line.ensures.less (omega (arith, false-eqb _ 0 c.loop-rest-test.ensures))

pub loop-rest-preserved : goal.loop-rest-preserved
loop-rest-preserved c =
    let es = entries c.loop-rest.table in
    let line = c.next_line.result.0.now in
    let next = c.next_line.ensures.first (omega (arith, false-eqb _ 0 c.loop-rest-test.ensures)) in
    let said = c.in_ok-dock.ensures ∙ ap (λ n. says (n + 1) line) c.len.ensures.value in
    one_more es c.loop-rest.rest.now c.args.text.now line c.next_line.result.1.now next c.loop-rest.invariant (entry_of c.in_ok-dock.dock) (entries c.push.new.self) said c.push.ensures

pub returns-in_err-dock : goal.returns-in_err-dock
returns-in_err-dock c =
    let es = entries c.loop-rest.table in
    let line = c.next_line.result.0.now in
    let next = c.next_line.ensures.first (omega (arith, false-eqb _ 0 c.loop-rest-test.ensures)) in
    let said = c.in_err-dock.ensures ∙ ap (λ n. says (n + 1) line) c.len.ensures.value in
    let p = err_from_is_err_and c.from_residual.result c.from_residual.ensures.1 in
    rw (p.1, p.2) (at_fault es c.loop-rest.rest.now c.args.text.now line c.next_line.result.1.now next c.loop-rest.invariant c.in_err-dock.field-0.0 said)

pub returns : goal.returns
returns c = at_end _ c.loop-rest.rest.now c.args.text.now c.loop-rest.invariant (true-eqb _ 0 c.loop-rest-test.ensures)
