-- The variables that a list has. Assumes nothing.
use Rattle.std.proofs.Common.{◌≡◌, ℕ, suc, ◌+◌, ◌<◌, ◌≤◌, Bool, true, false, ◌||◌, eqb, List, [], ◌∷◌, ◌++◌, reverse, length, sym, refl, ap, ◌∙◌, subst, inl, inr, arith}
use mathlib.Core.List.{reverse-cons}
use Rattle.std.specs.List.{AllByRecursion}
use Rattle.std.proofs.lemmas.Bool.{cond_both, false≢true, or_cases, or_left, or_right, or_parts, both_ways, eqb-true, eq-eqb}
use Rattle.model.specs.Tensors.{has}
use Rattle.model.specs.Terms.{kept}
use Rattle.model.specs.Lowering.{place}

-- xs has each of ys
abbrev pub Among : List ℕ → List ℕ → Type 0
Among xs ys = AllByRecursion (λ y. has xs y ≡ true) ys

pub or_assoc : (a b c : Bool) → ((a || b) || c) ≡ (a || (b || c))
or_assoc true b c = refl
or_assoc false b c = refl

pub has_append : (xs ys : List ℕ) (v : ℕ) → has (xs ++ ys) v ≡ (has xs v || has ys v)
has_append [] ys v = refl
has_append (x ∷ xs) ys v = ap (λ b. eqb x v || b) (has_append xs ys v) ∙ sym (or_assoc (eqb x v) (has xs v) (has ys v))

pub has_left : (xs ys : List ℕ) (v : ℕ) → has xs v ≡ true → has (xs ++ ys) v ≡ true
has_left xs ys v h = has_append xs ys v ∙ or_left (has xs v) (has ys v) h

pub has_right : (xs ys : List ℕ) (v : ℕ) → has ys v ≡ true → has (xs ++ ys) v ≡ true
has_right xs ys v h = has_append xs ys v ∙ or_right (has xs v) (has ys v) h

pub has_reverse : (xs : List ℕ) (v : ℕ) → has xs v ≡ true → has (reverse xs) v ≡ true
has_reverse [] v h = h
has_reverse (x ∷ xs) v h =
    subst (λ ys. has ys v ≡ true) (sym (reverse-cons x xs))
    (
    elim (or_cases (eqb x v) (has xs v) h) [
      | inl t ↦ has_right (reverse xs) (x ∷ []) v (or_left (eqb x v) false t)
      | inr t ↦ has_left (reverse xs) (x ∷ []) v (has_reverse xs v t)
    ]
    )

pub place_below : (xs : List ℕ) (v : ℕ) → has xs v ≡ true → place xs v < length xs
place_below [] v h = absurd (false≢true h)
place_below (x ∷ xs) v h =
    cond_both (eqb x v) 0 (place xs v + 1) (λ p. p < suc (length xs)) (λ e. omega arith)
    (λ e. elim (or_cases (eqb x v) (has xs v) h) [ inl t ↦ absurd (both_ways (eqb x v) e t) | inr t ↦ omega (arith, place_below xs v t) ])

-- a variable that none of ys is may go
pub among_rest : (v : ℕ) (xs ys : List ℕ) → has ys v ≡ false → Among (v ∷ xs) ys → Among xs ys
among_rest v xs [] h g = tt
among_rest v xs (y ∷ ys) h g =
    let f = or_parts (eqb y v) (has ys v) h in (
      elim (or_cases (eqb v y) (has xs y) g.0) [ inl t ↦ absurd (both_ways (eqb y v) f.0 (eq-eqb y v (sym (eqb-true v y t)))) | inr t ↦ t ],
      among_rest v xs ys f.1 g.1,
    )

pub kept_length : {A : Type 0} (p : A → Bool) (xs : List A) → length (kept p xs) ≤ length xs
kept_length p [] = omega arith
kept_length p (x ∷ xs) =
    let h = kept_length p xs in
    cond_both (p x) (x ∷ kept p xs) (kept p xs) (λ ys. length ys ≤ suc (length xs)) (λ e. omega arith) (λ e. omega arith)
