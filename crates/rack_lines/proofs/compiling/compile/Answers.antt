use Rattle.std.proofs.Common.{sym, ap}
use Rattle.std.proofs.lemmas.Result.{err_from_is_err_and}
use Rattle.reader.specs.declared.vars.VarList.{VarList}
use Rattle.lines.specs.Given.{slots_of}
use Rattle.lines.specs.Faults.{fault_of}
use Rattle.rack_lines.proofs.Outcomes.{refused_busy, refused_line, accepted_line}
use Rattle.rack_lines.proofs.compiling.compile.Goals as goal

pub returns-then-is_busy : goal.returns-then-is_busy
returns-then-is_busy g c = refused_busy (sym c.if-is_busy.ensures)

pub returns-in_err-line : goal.returns-in_err-line
returns-in_err-line g c =
    let p = err_from_is_err_and c.from_residual.result c.from_residual.ensures.1 in
    rw (p.1, p.2) (refused_line (sym c.if-is_busy.ensures) (slots_of c.seen.result) c.seen.ensures (fault_of c.in_err-line.field-0.0) c.in_err-line.ensures.read)

pub returns : goal.returns
returns g c =
    let see = slots_of c.seen.result in
    let r = c.in_ok-line.ensures.read in
    accepted_line (sym c.if-is_busy.ensures) see c.seen.ensures r.0 r.1 (c.lower-commands.ensures see r.0 r.1.0 r.2.stands r.1.1)
    (ap (λ (v : VarList). v.count) r.2.left) c.clear.ensures
