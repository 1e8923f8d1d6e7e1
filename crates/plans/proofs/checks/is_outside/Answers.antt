use Rattle.std.proofs.Common.{ℕ, leb, rules, tests, ◌∙◌}
use Rattle.std.proofs.lemmas.Iterator.{YieldsList-from_slice, YieldsList-from_zip}
use Rattle.std.proofs.lemmas.Iterator.Search.{any_from_yields_List}
use Rattle.plans.proofs.Compares.{outside_any}
use Rattle.plans.proofs.checks.is_outside.Goals as goal

pub returns : goal.returns
returns c =
    any_from_yields_List (λ (p : ℕ × ℕ). leb p.0 p.1) c.any.new.self _ c.any.result c.any.ensures.ran
    (YieldsList-from_zip (YieldsList-from_slice c.args.extents.now cc) (YieldsList-from_slice c.args.coordinates.now cc)) (λ x b q k. search (rules, tests))
    ∙ outside_any c.args.extents.now c.args.coordinates.now c.requires
