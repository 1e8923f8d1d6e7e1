-- The search for the first dock with the least time. Assumes nothing.
use Rattle.std.proofs.Common.{◌≡◌, ℕ, ◌+◌, ◌^◌, ◌<◌, min, Bool, true, cond, not, eqb, eq-eqb, ltb, List, [], ◌∷◌, map, length, get_or, Some, None, Option, sym, refl, ap, ◌∙◌, inl, inr, arith}
use Rattle.std.proofs.lemmas.List.{length-map}
use Rattle.std.proofs.lemmas.List.Sums.{fails_before_first, passes_at_first}
use Rattle.std.proofs.lemmas.Bool.{true≢false, eqb-true, cases_lt}
use Rattle.std.specs.List.{position, position_or_len}
use Rattle.docks.proofs.Cuts.{sought_none, sought_some}
use Rattle.docks.specs.Answers.{totals, Least, FirstLeast}
use Rattle.docks.specs.Tables.{Entry}
use Rattle.docks.specs.Views.{entry_of}
use Rattle.docks.specs.declared.dock.Dock.{Dock}

-- a dock passes where what its way takes is t, or t is no time and neither is that
abbrev pub takes : ℕ → Dock → Bool
takes t d = eqb (min (d.leg_in.value + d.leg_out.value) 4294967295) t

abbrev is_total : ℕ → ℕ → Bool
is_total t x = eqb (min x 4294967295) t

position_total : (t : ℕ) (ds : List Dock) → position_or_len (takes t) ds ≡ position_or_len (is_total t) (totals (map entry_of ds))
position_total t [] = refl
position_total t (d ∷ ds) = ap (λ n. cond (not (takes t d)) (1 + n) 0) (position_total t ds)

module _ (ds : List Dock) (es : List Entry) (same : map entry_of ds ≡ es) where
  pub length_totals : length (totals es) ≡ length ds
  length_totals = length-map es (λ e. e.leg_in + e.leg_out) ∙ ap length (sym same) ∙ length-map ds entry_of

abbrev at_most : ℕ → ℕ → Option ℕ
at_most n l = cond (ltb n l) (Some n) None

same_position : (t : ℕ) (ds : List Dock) → position (takes t) ds ≡ position (is_total t) (totals (map entry_of ds))
same_position t ds =
    ap (λ n. at_most n (length ds)) (position_total t ds) ∙ ap (at_most (position_or_len (is_total t) (totals (map entry_of ds)))) (sym (length_totals ds (map entry_of ds) refl))

module _ (ts : List ℕ) (t : ℕ) (least : Least ts t) where
  pub no_time : t ≡ 4294967295 → FirstLeast ts None
  no_time e k l = omega (arith, least.0 k l)

  module _ (short : t < 2 ^ 32) (some : t ≡ 4294967295 → ⊥) where
    pub first_found : (i : ℕ) → i < length ts → get_or ts i 0 ≡ t → ((k : ℕ) → k < i → get_or ts k 0 ≡ t → ⊥) → FirstLeast ts (Some i)
    first_found i l e before =
        (l, omega arith, λ k h. omega (arith, least.0 k h), λ k h. let ne : get_or ts k 0 ≡ t → ⊥ = before k h in omega (arith, least.0 k (omega arith)))

    pub not_missed : ((k : ℕ) → k < length ts → get_or ts k 0 ≡ t → ⊥) → ⊥
    not_missed none = elim least.1 [ inl e ↦ some e | inr p ↦ none p.0 p.1 (sym p.2) ]

    -- a total that is t passes, and one that does not pass is not t
    passes : (x : ℕ) → x ≡ t → is_total t x ≡ true
    passes x e = eq-eqb (min x 4294967295) t (omega arith)

    passed : (x : ℕ) → is_total t x ≡ true → x ≡ t
    passed x e = let m = eqb-true (min x 4294967295) t e in elim (cases_lt x 4294967295) [ inl l ↦ omega arith | inr l ↦ absurd (some (omega arith)) ]

    pub first_total : (r : Option ℕ) → r ≡ position (is_total t) ts → FirstLeast ts r
    first_total None e =
        let all = sought_none (is_total t) ts e in
        absurd (not_missed (λ k h f. true≢false (sym (passes _ f) ∙ fails_before_first (is_total t) ts k 0 (omega arith))))
    first_total (Some i) e =
        let at = sought_some (is_total t) ts i e in
        let here : get_or ts i 0 ≡ t = passed _ (ap (λ n. is_total t (get_or ts n 0)) at.0 ∙ passes_at_first (is_total t) ts 0 at.1) in
        first_found i (omega arith) here (λ k h f. true≢false (sym (passes _ f) ∙ fails_before_first (is_total t) ts k 0 (omega arith)))

-- the first dock that takes the least time
pub best : (ds : List Dock) (es : List Entry) (t : ℕ) (r : Option ℕ) → map entry_of ds ≡ es → Least (totals es) t → t < 2 ^ 32 → (t ≡ 4294967295 → ⊥) → r ≡ position (takes t) ds
    → FirstLeast (totals es) r
best ds es t r same least short some e =
    first_total (totals es) t least short some r (e ∙ same_position t ds ∙ ap (λ xs. position (is_total t) (totals xs)) same)
