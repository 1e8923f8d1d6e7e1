use Rattle.std.proofs.Common.{◌||◌, eqb, ltb, rules, tests, ◌∙◌}
use Rattle.std.proofs.lemmas.Iterator.{YieldsList-from_slice}
use Rattle.std.proofs.lemmas.Iterator.Search.{any_from_yields_List}
use Rattle.plans.proofs.Compares.{some_pass_any}
use Rattle.plans.proofs.shape.has_wrong_extent.Goals as goal

pub returns : goal.returns
returns c =
    any_from_yields_List (λ e. eqb e 0 || ltb 4096 e) _ _ c.any.result c.any.ensures.ran (YieldsList-from_slice c.args.extents.now cc) (λ x b q k. search (rules, tests))
    ∙ some_pass_any (λ e. eqb e 0 || ltb 4096 e) c.args.extents.now
