use Rattle.std.proofs.Common.{length, ap, ◌∙◌, arith}
use Rattle.std.proofs.lemmas.List.{length-map}
use Rattle.semiring.specs.Kinds.{counts}
use Rattle.docks.specs.Answers.{over_docks, counts_once}
use Rattle.docks.specs.Views.{entry_of, entries}
use Rattle.docks.proofs.Meanings.{counted}
use Rattle.docks.proofs.answers.count_docks.Goals as goal

pub returns-clause-number : goal.returns-clause-number
returns-clause-number c =
    let es = entries c.args.table.now in
    let e = c.answer.ensures ∙ ap (over_docks counts counts_once) c.docks.ensures.value in
    ap (λ x. x.value) e ∙ counted es (omega (arith, ap length c.docks.ensures.value, length-map c.docks.result.now entry_of, c.docks.ensures.bound))
