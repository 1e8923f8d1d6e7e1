-- The order of summation does not matter. Assumes nothing.
use Rattle.std.proofs.Common.{◌≡◌, ℕ, Bool, true, false, cond, ◌||◌, eqb, List, [], ◌∷◌, ◌++◌, map, sym, refl, ap, ◌∙◌, subst}
use mathlib.Core.Path.{fun_ext}
use mathlib.Core.Bool.{false≢true}
use Rattle.std.proofs.lemmas.Bool.{eq-eqb, eqb-true, eqb-false}
use Rattle.model.specs.Semirings.{Algebra, Laws, total}
use Rattle.model.specs.Tensors.{has}
use Rattle.model.specs.Sums.{below, Assignment, bind, sum_over}
use Rattle.model.proofs.Fit.{Distinct}
use Rattle.model.proofs.Totals.{exchange}
use Rattle.model.proofs.Variables.{or_none, has_middle, found, distinct_without}

module _ {V : Type 0} (K : Algebra V) (laws : Laws K) (extent : ℕ → ℕ) (dense : ℕ → List ℕ → V) where
  abbrev over : List ℕ → Assignment → (Assignment → V) → V
  over = sum_over K extent dense

  bind_swap : (v c w d : ℕ) (s : Assignment) → eqb v w ≡ false → bind v c (bind w d s) ≡ bind w d (bind v c s)
  bind_swap v c w d s ne = fun_ext λ u. go u (eqb v u) (eqb w u) refl refl
    where
      go : (u : ℕ) (a b : Bool) → eqb v u ≡ a → eqb w u ≡ b → cond a c (cond b d (s u)) ≡ cond b d (cond a c (s u))
      go u true true p q = absurd (eqb-false v w ne (eqb-true v u p ∙ sym (eqb-true w u q)))
      go u true false p q = refl
      go u false true p q = refl
      go u false false p q = refl

  -- a variable may be summed first
  over_middle : (us : List ℕ) (v : ℕ) (vs : List ℕ) (s : Assignment) (f : Assignment → V) → has us v ≡ false → over (us ++ v ∷ vs) s f ≡ over (v ∷ (us ++ vs)) s f
  over_middle [] v vs s f h = refl
  over_middle (u ∷ us) v vs s f h =
      let none = or_none (eqb u v) (has us v) h in
      ap (λ (g : ℕ → V). total K (map g (below 0 (extent u)))) (fun_ext λ c. over_middle us v vs (bind u c s) f none.1)
      ∙ exchange K laws (λ c d. over (us ++ vs) (bind v d (bind u c s)) f) (below 0 (extent u)) (below 0 (extent v))
      ∙ ap (λ (g : ℕ → V). total K (map g (below 0 (extent v))))
      (fun_ext λ d. ap (λ (g : ℕ → V). total K (map g (below 0 (extent u)))) (fun_ext λ c. ap (λ t. over (us ++ vs) t f) (sym (bind_swap u c v d s none.0))))

  -- the order of summation does not matter
  pub over_rearranged : (vs ws : List ℕ) → Distinct vs → Distinct ws → ((v : ℕ) → has vs v ≡ has ws v) → (s : Assignment) (f : Assignment → V) → over vs s f ≡ over ws s f
  over_rearranged [] [] d d1 h s f = refl
  over_rearranged [] (w ∷ ws) d d1 h s f = absurd (false≢true (h w ∙ ap (λ b. b || has ws w) (eq-eqb w w refl)))
  over_rearranged (v ∷ vs) ws d d1 h s f =
      let at = found ws v (sym (h v) ∙ ap (λ b. b || has vs v) (eq-eqb v v refl)) in
      let us = at.0 in let xs = at.1 in
      let less = distinct_without us v xs (subst Distinct at.2 d1) in
      ap (λ (g : ℕ → V). total K (map g (below 0 (extent v)))) (fun_ext λ c. over_rearranged vs (us ++ xs) d.1 less.0 (λ w. rest us xs at.2 less.1 w (eqb v w) refl) (bind v c s) f)
      ∙ sym (over_middle us v xs s f at.3)
      ∙ ap (λ l. over l s f) (sym at.2)
    where
      rest : (us xs : List ℕ) → ws ≡ us ++ v ∷ xs → has (us ++ xs) v ≡ false → (w : ℕ) (b : Bool) → eqb v w ≡ b → has vs w ≡ has (us ++ xs) w
      rest us xs is no_v w true q = ap (has vs) (sym (eqb-true v w q)) ∙ d.0 ∙ sym no_v ∙ ap (has (us ++ xs)) (eqb-true v w q)
      rest us xs is no_v w false q = sym (ap (λ b. b || has vs w) q) ∙ h w ∙ ap (λ l. has l w) is ∙ has_middle us v xs w ∙ ap (λ b. b || has (us ++ xs) w) q
