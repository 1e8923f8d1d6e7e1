use Rattle.std.proofs.Common.{ltb, rules, tests, ◌∙◌}
use Rattle.std.proofs.lemmas.Iterator.{YieldsList-from_slice}
use Rattle.std.proofs.lemmas.Iterator.Search.{any_from_yields_List}
use Rattle.plans.proofs.Compares.{some_pass_any}
use Rattle.plans.proofs.shape.has_wrong_format.Goals as goal

pub returns : goal.returns
returns c =
    any_from_yields_List (λ f. ltb 1 f) _ _ c.any.result c.any.ensures.ran (YieldsList-from_slice c.args.formats.now cc) (λ x b q k. search (rules, tests))
    ∙ some_pass_any (λ f. ltb 1 f) c.args.formats.now
