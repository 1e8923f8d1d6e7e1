use Rattle.std.proofs.Common.{sym, ap, ◌∙◌, subst}
use Rattle.semiring.specs.Kinds.{time, times}
use Rattle.semiring.specs.declared.time.Time.{Time}
use Rattle.docks.specs.Answers.{over_docks, totals, Least}
use Rattle.docks.specs.Views.{entries}
use Rattle.docks.proofs.Meanings.{least}
use Rattle.docks.proofs.answers.least_time.Goals as goal

pub returns-clause-least : goal.returns-clause-least
returns-clause-least c =
    let es = entries c.args.table.now in
    let P : Time → Type 0 = λ t. Least (totals es) t.value in subst P (sym (c.answer.ensures ∙ ap (over_docks times time) c.docks.ensures.value)) (least es)
