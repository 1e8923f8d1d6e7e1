use Rattle.std.proofs.Common.{◌<◌, Bool, Decides, count_by, sym, ap, ◌∙◌, subst}
use Rattle.semiring.specs.Kinds.{flags}
use Rattle.docks.specs.Answers.{over_docks, runs, connects}
use Rattle.docks.specs.Views.{entries}
use Rattle.docks.proofs.Meanings.{any_connects}
use Rattle.docks.proofs.answers.any_runs.Goals as goal

pub returns-clause-any : goal.returns-clause-any
returns-clause-any c =
    let es = entries c.args.table.now in
    let P : Bool → Type 0 = λ b. Decides b (0 < count_by connects es) in subst P (sym (c.answer.ensures ∙ ap (over_docks flags runs) c.docks.ensures.value)) (any_connects es)
