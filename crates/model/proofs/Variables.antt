-- Lists of variables: which they have, those that pass a test, each once. Assumes nothing.
use Rattle.std.proofs.Common.{◌≡◌, ℕ, suc, ◌+◌, ◌<◌, Bool, true, false, cond, ◌&&◌, ◌||◌, eqb, List, [], ◌∷◌, ◌++◌, reverse, length, sym, refl, ap, ◌∙◌, subst, ap₂, true≢false, arith}
use mathlib.Core.Bool.{false≢true}
use mathlib.Core.List.{reverse-cons}
use Rattle.std.proofs.lemmas.Bool.{ne_eqb, eqb-true, eqb-false}
use Rattle.model.specs.Tensors.{has}
use Rattle.model.specs.Terms.{kept}
use Rattle.model.specs.Lowering.{place}
use Rattle.model.specs.Sums.{distinct}
use Rattle.model.proofs.Fit.{Distinct}
use Rattle.model.proofs.MergedLists.{or_assoc, or_swap, and_false}

pub or_comm : (a b : Bool) → (a || b) ≡ (b || a)
or_comm true true = refl
or_comm true false = refl
or_comm false true = refl
or_comm false false = refl

pub no_true : (b : Bool) → (b ≡ true → ⊥) → b ≡ false
no_true true h = absurd (h refl)
no_true false h = refl

pub or_none : (a b : Bool) → (a || b) ≡ false → (a ≡ false) × (b ≡ false)
or_none true b h = absurd (true≢false h)
or_none false b h = (refl, h)

pub and_parts : (a b : Bool) → (a && b) ≡ true → (a ≡ true) × (b ≡ true)
and_parts true b h = (refl, h)
and_parts false b h = absurd (false≢true h)

pub has_append : (xs ys : List ℕ) (w : ℕ) → has (xs ++ ys) w ≡ (has xs w || has ys w)
has_append [] ys w = refl
has_append (x ∷ xs) ys w = ap (λ b. eqb x w || b) (has_append xs ys w) ∙ sym (or_assoc (eqb x w) (has xs w) (has ys w))

pub has_reverse : (xs : List ℕ) (w : ℕ) → has (reverse xs) w ≡ has xs w
has_reverse [] w = refl
has_reverse (x ∷ xs) w =
    ap (λ l. has l w) (reverse-cons x xs) ∙ has_append (reverse xs) (x ∷ []) w ∙ ap₂ ◌||◌ (has_reverse xs w) (or_comm (eqb x w) false) ∙ or_comm (has xs w) (eqb x w)

pub kept_append : (p : ℕ → Bool) (xs ys : List ℕ) → kept p (xs ++ ys) ≡ kept p xs ++ kept p ys
kept_append p [] ys = refl
kept_append p (x ∷ xs) ys = go (p x) (kept_append p xs ys)
  where
    go : (b : Bool) → kept p (xs ++ ys) ≡ kept p xs ++ kept p ys → cond b (x ∷ kept p (xs ++ ys)) (kept p (xs ++ ys)) ≡ cond b (x ∷ kept p xs) (kept p xs) ++ kept p ys
    go true ih = ap (λ (l : List ℕ). x ∷ l) ih
    go false ih = ih

-- a list keeps those that it has and that pass
pub kept_has : (p : ℕ → Bool) (xs : List ℕ) (w : ℕ) → has (kept p xs) w ≡ (has xs w && p w)
kept_has p [] w = refl
kept_has p (x ∷ xs) w = go (p x) (eqb x w) refl refl (kept_has p xs w)
  where
    go : (b d : Bool) → p x ≡ b → eqb x w ≡ d → has (kept p xs) w ≡ (has xs w && p w) → has (cond b (x ∷ kept p xs) (kept p xs)) w ≡ ((d || has xs w) && p w)
    go true true e q ih = ap (λ d. d || has (kept p xs) w) q ∙ sym e ∙ ap p (eqb-true x w q)
    go true false e q ih = ap (λ d. d || has (kept p xs) w) q ∙ ih
    go false true e q ih =
        let fails : p w ≡ false = ap p (sym (eqb-true x w q)) ∙ e in
        ih ∙ ap (λ d. has xs w && d) fails ∙ and_false (has xs w) ∙ sym fails
    go false false e q ih = ih

pub has_kept : (p : ℕ → Bool) (xs : List ℕ) (w : ℕ) → has (kept p xs) w ≡ true → has xs w ≡ true
has_kept p xs w h = (and_parts (has xs w) (p w) (sym (kept_has p xs w) ∙ h)).0

pub in_kept : (p : ℕ → Bool) (xs : List ℕ) (w : ℕ) → p w ≡ true → has xs w ≡ true → has (kept p xs) w ≡ true
in_kept p xs w o h = kept_has p xs w ∙ ap₂ ◌&&◌ h o

pub kept_within : (p q : ℕ → Bool) (xs : List ℕ) → ((v : ℕ) → p v ≡ true → q v ≡ true) → kept p (kept q xs) ≡ kept p xs
kept_within p q [] h = refl
kept_within p q (x ∷ xs) h = go (q x) (p x) refl refl (kept_within p q xs h)
  where
    go : (b d : Bool) → q x ≡ b → p x ≡ d → kept p (kept q xs) ≡ kept p xs → kept p (cond b (x ∷ kept q xs) (kept q xs)) ≡ cond d (x ∷ kept p xs) (kept p xs)
    go true d e f ih = ap (λ d. cond d (x ∷ kept p (kept q xs)) (kept p (kept q xs))) f ∙ ap (λ (l : List ℕ). cond d (x ∷ l) l) ih
    go false true e f ih = absurd (true≢false (sym (h x f) ∙ e))
    go false false e f ih = ih

pub distinct_append : (xs : List ℕ) (x : ℕ) → Distinct xs → has xs x ≡ false → Distinct (xs ++ x ∷ [])
distinct_append [] x d h = (refl, tt)
distinct_append (y ∷ xs) x d h = go (eqb y x) refl h (distinct_append xs x d.1)
  where
    go : (b : Bool) → eqb y x ≡ b → (b || has xs x) ≡ false → (has xs x ≡ false → Distinct (xs ++ x ∷ [])) → Distinct (y ∷ xs ++ x ∷ [])
    go true q h1 ih = absurd (true≢false h1)
    go false q h1 ih = (has_append xs (x ∷ []) y ∙ ap₂ ◌||◌ d.0 (ap (λ b. b || false) (ne_eqb x y (λ e. eqb-false y x q (sym e)))), ih h1)

pub distinct_reverse : (xs : List ℕ) → Distinct xs → Distinct (reverse xs)
distinct_reverse [] d = tt
distinct_reverse (x ∷ xs) d = subst Distinct (sym (reverse-cons x xs)) (distinct_append (reverse xs) x (distinct_reverse xs d.1) (has_reverse xs x ∙ d.0))

pub distinct_kept : (p : ℕ → Bool) (xs : List ℕ) → Distinct xs → Distinct (kept p xs)
distinct_kept p [] d = tt
distinct_kept p (x ∷ xs) d = go (p x) (distinct_kept p xs d.1)
  where
    go : (b : Bool) → Distinct (kept p xs) → Distinct (cond b (x ∷ kept p xs) (kept p xs))
    go true ih = (no_true (has (kept p xs) x) (λ h. true≢false (sym (has_kept p xs x h) ∙ d.0)), ih)
    go false ih = ih

-- each once: the same variables, none twice
pub distinct_has : (xs : List ℕ) (w : ℕ) → has (distinct xs) w ≡ has xs w
distinct_has [] w = refl
distinct_has (x ∷ xs) w = go (has xs x) (eqb x w) refl refl (distinct_has xs w)
  where
    go : (b d : Bool) → has xs x ≡ b → eqb x w ≡ d → has (distinct xs) w ≡ has xs w → has (cond b (distinct xs) (x ∷ distinct xs)) w ≡ (d || has xs w)
    go true true e q ih = ih ∙ ap (has xs) (sym (eqb-true x w q)) ∙ e
    go true false e q ih = ih
    go false d e q ih = ap₂ ◌||◌ q ih

pub distinct_once : (xs : List ℕ) → Distinct (distinct xs)
distinct_once [] = tt
distinct_once (x ∷ xs) = go (has xs x) refl (distinct_once xs)
  where
    go : (b : Bool) → has xs x ≡ b → Distinct (distinct xs) → Distinct (cond b (distinct xs) (x ∷ distinct xs))
    go true e ih = ih
    go false e ih = (distinct_has xs x ∙ e, ih)

pub has_middle : (us : List ℕ) (v : ℕ) (vs : List ℕ) (w : ℕ) → has (us ++ v ∷ vs) w ≡ (eqb v w || has (us ++ vs) w)
has_middle [] v vs w = refl
has_middle (u ∷ us) v vs w = ap (λ b. eqb u w || b) (has_middle us v vs w) ∙ or_swap (eqb u w) (eqb v w) (has (us ++ vs) w)

-- where a variable stands
pub found : (xs : List ℕ) (v : ℕ) → has xs v ≡ true → (us : List ℕ) × (vs : List ℕ) × (xs ≡ us ++ v ∷ vs) × (has us v ≡ false)
found [] v h = absurd (false≢true h)
found (x ∷ xs) v h = go (eqb x v) refl h (found xs v)
  where
    go : (b : Bool) → eqb x v ≡ b → (b || has xs v) ≡ true → (has xs v ≡ true → (us : List ℕ) × (vs : List ℕ) × (xs ≡ us ++ v ∷ vs) × (has us v ≡ false)) → (us : List ℕ) × (vs : List ℕ) × (x ∷ xs ≡ us ++ v ∷ vs) × (has us v ≡ false)
    go true q h1 ih = ([], xs, ap (λ y. y ∷ xs) (eqb-true x v q), refl)
    go false q h1 ih = let r = ih h1 in (x ∷ r.0, r.1, ap (λ (l : List ℕ). x ∷ l) r.2, ap₂ ◌||◌ q r.3)

pub distinct_without : (us : List ℕ) (v : ℕ) (vs : List ℕ) → Distinct (us ++ v ∷ vs) → Distinct (us ++ vs) × (has (us ++ vs) v ≡ false)
distinct_without [] v vs d = (d.1, d.0)
distinct_without (u ∷ us) v vs d =
    let more = distinct_without us v vs d.1 in
    let none = or_none (eqb v u) (has (us ++ vs) u) (sym (has_middle us v vs u) ∙ d.0) in
    ((none.1, more.0), ap₂ ◌||◌ (ne_eqb u v (λ e. eqb-false v u none.0 (sym e))) more.1)

-- the place of a variable is found in a longer list too
pub place_front : (xs ys : List ℕ) (w : ℕ) → has xs w ≡ true → (place (xs ++ ys) w ≡ place xs w) × (place xs w < length xs)
place_front [] ys w h = absurd (false≢true h)
place_front (x ∷ xs) ys w h = go (eqb x w) h (place_front xs ys w)
  where
    go : (b : Bool) → (b || has xs w) ≡ true → (has xs w ≡ true → (place (xs ++ ys) w ≡ place xs w) × (place xs w < length xs))
        → (cond b 0 (place (xs ++ ys) w + 1) ≡ cond b 0 (place xs w + 1)) × (cond b 0 (place xs w + 1) < suc (length xs))
    go true h1 ih = (refl, omega arith)
    go false h1 ih = let both = ih h1 in (ap (λ n. n + 1) both.0, omega (arith, both.1))
