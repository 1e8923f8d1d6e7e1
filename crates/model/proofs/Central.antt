-- The central theorem, and the agreement of lines, from acceptance. Assumes nothing.
use Rattle.std.proofs.Common.{◌≡◌, ℕ, true, List, sym, ◌∙◌, subst}
use Rattle.std.specs.List.{AllByRecursion}
use Rattle.std.proofs.ByRecursion.{All-weaker}
use Rattle.model.specs.Tensors.{has}
use Rattle.model.specs.Terms.{Access}
use Rattle.model.specs.Reading.{line_of}
use Rattle.model.specs.Conditions.{extent_of}
use Rattle.model.specs.Sums.{multiplied_out}
use Rattle.model.specs.Meaning.{extents_seen, dense_values, Meaning, Agreement}
use Rattle.model.specs.Shapes.{WellShaped}
use Rattle.model.proofs.LineMeaning.{fit_meaning, fit_commands}
use Rattle.model.proofs.Acceptance.{accepted_fits}
use Rattle.model.proofs.AlikeLines.{sums_alike_lines}
use Rattle.model.proofs.AgreeingListings.{AgreeAt, listing_agrees}
use Rattle.model.proofs.Agreements.{Agrees, Agreeing, agree_extents}

pub meaning : (V : Type 0) → Meaning V
meaning V K laws test ts T hold s l accepts =
    fit_meaning V K laws test T (extent_of (extents_seen ts) l) (dense_values K.zero ts) (line_of l) (accepted_fits K ts T hold s l accepts)

pub well_shaped : (V : Type 0) → WellShaped V
well_shaped V K ts T hold s l accepts = fit_commands K T (extent_of (extents_seen ts) l) (dense_values K.zero ts) (line_of l) (accepted_fits K ts T hold s l accepts)

pub agreement : (V : Type 0) → Agreement V
agreement V K laws test ts us T U hold held s r l m first second left like agree =
    (meaning V K laws test ts T hold s l first).1
    ∙ sums_alike_lines V K laws one dense (line_of l) (line_of m) left like
    ∙ listing_agrees K one other dense others (line_of m) (λ v h. same.left v (subst (λ vs. has vs v ≡ true) (sym left) h))
    (All-weaker (AllByRecursion (Agrees K.zero ts us l m)) (AllByRecursion at) (λ b. All-weaker (Agrees K.zero ts us l m) at (λ a g. (g.extents, g.values)) b) (multiplied_out (line_of m)) same.bags_second)
    ∙ sym (meaning V K laws test us U held r m second).1
  where
    one : ℕ → ℕ
    one = extent_of (extents_seen ts) l

    other : ℕ → ℕ
    other = extent_of (extents_seen us) m

    dense : ℕ → List ℕ → V
    dense = dense_values K.zero ts

    others : ℕ → List ℕ → V
    others = dense_values K.zero us

    at : Access → Type 0
    at = AgreeAt K one other dense others

    same : Agreeing K.zero ts us l m
    same = agree_extents K.zero ts us l m s r first second like agree
