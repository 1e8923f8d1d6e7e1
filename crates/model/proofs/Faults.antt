-- Where no place is at fault, every check passes; and tests over lists of numbers as facts. Assumes nothing.
use Rattle.std.proofs.Common.{◌≡◌, ℕ, zero, suc, ◌+◌, ◌<◌, Bool, true, false, cond, not, ◌||◌, eqb, List, [], ◌∷◌, ◌++◌, map, length, get_or, Some, None, Option, sym, refl, ap, ◌∙◌, subst, ap₂, true≢false, le_of_suc-le-suc, not-suc-le-zero}
use mathlib.Core.Bool.{false≢true}
use Rattle.std.specs.List.{flat_map, AllByRecursion}
use Rattle.std.proofs.lemmas.Bool.{eq-eqb, eqb-true, or_parts, and_parts}
use Rattle.model.specs.Tensors.{has, same}
use Rattle.model.specs.Conditions.{Check, first_fault, leftmost, LineFault, Rule, or_else, repeats, all_in, same_vars, order_checks}
use Rattle.model.specs.Reading.{placed_vars}
use Rattle.model.proofs.Fit.{Distinct}

-- a number, or none
abbrev Given : {A : Type 0} → Option A → Type 0
Given None = ⊥
Given (Some x) = Unit {0}

pub some_none : {A : Type 0} (x : A) → Some x ≡ None → ⊥
some_none x e = subst Given e tt

abbrev pub Pass : Check → Type 0
Pass c = c.1 ≡ false

abbrev pub Passes : List Check → Type 0
Passes cs = AllByRecursion Pass cs

pub every_passes : (cs : List Check) → first_fault cs ≡ None → Passes cs
every_passes [] h = tt
every_passes (c ∷ cs) h = go c.1 refl h (every_passes cs)
  where
    go : (b : Bool) → c.1 ≡ b → cond b (Some c.0) (first_fault cs) ≡ None → (first_fault cs ≡ None → Passes cs) → Passes (c ∷ cs)
    go true q h' ih = absurd (some_none c.0 h')
    go false q h' ih = (q, ih h')

pub neither : (p q : Option ℕ) → leftmost p q ≡ None → (p ≡ None) × (q ≡ None)
neither None q h = (refl, h)
neither (Some p) None h = absurd (some_none p h)
neither (Some p) (Some q) h = absurd (some_none _ h)

pub no_fault : (o : Option ℕ) (r : Rule) (rest : Option LineFault) → or_else o r rest ≡ None → (o ≡ None) × (rest ≡ None)
no_fault None r rest h = (refl, h)
no_fault (Some p) r rest h = absurd (some_none _ h)

module _ {A : Type 0} (P : A → Type 0) where
  pub all_append : (xs ys : List A) → AllByRecursion P xs → AllByRecursion P ys → AllByRecursion P (xs ++ ys)
  all_append [] ys h k = k
  all_append (x ∷ xs) ys h k = (h.0, all_append xs ys h.1 k)

  pub all_front : (xs ys : List A) → AllByRecursion P (xs ++ ys) → AllByRecursion P xs
  all_front [] ys h = tt
  all_front (x ∷ xs) ys h = (h.0, all_front xs ys h.1)

  pub all_back : (xs ys : List A) → AllByRecursion P (xs ++ ys) → AllByRecursion P ys
  all_back [] ys h = h
  all_back (x ∷ xs) ys h = all_back xs ys h.1

  pub all_mapped : {B : Type 0} (f : B → A) (xs : List B) → AllByRecursion P (map f xs) → AllByRecursion (λ x. P (f x)) xs
  all_mapped f [] h = tt
  all_mapped f (x ∷ xs) h = (h.0, all_mapped f xs h.1)

  pub all_joined : {B : Type 0} (f : B → List A) (xs : List B) → AllByRecursion P (flat_map f xs) → AllByRecursion (λ x. AllByRecursion P (f x)) xs
  all_joined f [] h = tt
  all_joined f (x ∷ xs) h = (all_front (f x) (flat_map f xs) h, all_joined f xs (all_back (f x) (flat_map f xs) h))

  pub all_both : (Q R : A → Type 0) → ((x : A) → P x → Q x → R x) → (xs : List A) → AllByRecursion P xs → AllByRecursion Q xs → AllByRecursion R xs
  all_both Q R f [] h k = tt
  all_both Q R f (x ∷ xs) h k = (f x h.0 k.0, all_both Q R f xs h.1 k.1)

  pub all_as : (Q : A → Type 0) → ((x : A) → P x → Q x) → (xs : List A) → AllByRecursion P xs → AllByRecursion Q xs
  all_as Q f [] h = tt
  all_as Q f (x ∷ xs) h = (f x h.0, all_as Q f xs h.1)

  -- what holds of each holds of the nth
  pub all_nth : (xs : List A) (i : ℕ) (d : A) → i < length xs → AllByRecursion P xs → P (get_or xs i d)
  all_nth [] i d h k = absurd (not-suc-le-zero h)
  all_nth (x ∷ xs) zero d h k = k.0
  all_nth (x ∷ xs) (suc i) d h k = all_nth xs i d (le_of_suc-le-suc h) k.1

pub has_append : (xs ys : List ℕ) (v : ℕ) → has (xs ++ ys) v ≡ (has xs v || has ys v)
has_append [] ys v = refl
has_append (x ∷ xs) ys v = go (eqb x v) (has_append xs ys v)
  where
    go : (b : Bool) → has (xs ++ ys) v ≡ (has xs v || has ys v) → (b || has (xs ++ ys) v) ≡ (b || has xs v || has ys v)
    go true ih = refl
    go false ih = ih

pub or_false : (b : Bool) → (b || false) ≡ b
or_false true = refl
or_false false = refl

pub has_once : (v : ℕ) → has (v ∷ []) v ≡ true
has_once v = ap (λ b. b || false) (eq-eqb v v refl)

pub same_is : (xs ys : List ℕ) → same xs ys ≡ true → xs ≡ ys
same_is [] [] h = refl
same_is [] (y ∷ ys) h = absurd (false≢true h)
same_is (x ∷ xs) [] h = absurd (false≢true h)
same_is (x ∷ xs) (y ∷ ys) h = go (eqb x y) refl h (same_is xs ys)
  where
    go : (b : Bool) → eqb x y ≡ b → cond b (same xs ys) false ≡ true → (same xs ys ≡ true → xs ≡ ys) → x ∷ xs ≡ y ∷ ys
    go true q h' ih = ap₂ (λ (a : ℕ) (l : List ℕ). a ∷ l) (eqb-true x y q) (ih h')
    go false q h' ih = absurd (false≢true h')

pub same_self : (xs : List ℕ) → same xs xs ≡ true
same_self [] = refl
same_self (x ∷ xs) = ap (λ b. cond b (same xs xs) false) (eq-eqb x x refl) ∙ same_self xs

pub once_each : (vs : List ℕ) → repeats vs ≡ false → Distinct vs
once_each [] h = tt
once_each (v ∷ vs) h = let parts = or_parts (has vs v) (repeats vs) h in (parts.0, once_each vs parts.1)

pub all_in_has : (xs ys : List ℕ) (v : ℕ) → all_in xs ys ≡ true → has xs v ≡ true → has ys v ≡ true
all_in_has [] ys v h k = absurd (false≢true k)
all_in_has (x ∷ xs) ys v h k = go (eqb x v) refl k (all_in_has xs ys v parts.1)
  where
    parts : (has ys x ≡ true) × (all_in xs ys ≡ true)
    parts = and_parts (has ys x) (all_in xs ys) h

    go : (b : Bool) → eqb x v ≡ b → (b || has xs v) ≡ true → (has xs v ≡ true → has ys v ≡ true) → has ys v ≡ true
    go true q k' ih = ap (has ys) (sym (eqb-true x v q)) ∙ parts.0
    go false q k' ih = ih k'

-- two tests that give one another are equal
pub both_ways : (a b : Bool) → (a ≡ true → b ≡ true) → (b ≡ true → a ≡ true) → a ≡ b
both_ways true b f g = sym (f refl)
both_ways false true f g = g refl
both_ways false false f g = refl

pub same_vars_has : (xs ys : List ℕ) (v : ℕ) → same_vars xs ys ≡ true → has xs v ≡ has ys v
same_vars_has xs ys v h =
    let parts = and_parts (all_in xs ys) (all_in ys xs) h in
    both_ways (has xs v) (has ys v) (all_in_has xs ys v parts.0) (all_in_has ys xs v parts.1)

-- a loop order that passes has no variable twice, and none of those seen before it
pub order_once : (used seen : List ℕ) (p : ℕ) (vs : List ℕ) → Passes (order_checks used seen (placed_vars p vs))
    → Distinct vs × ((w : ℕ) → has vs w ≡ true → has seen w ≡ false)
order_once used seen p [] h = (tt, λ w k. absurd (false≢true k))
order_once used seen p (v ∷ vs) h = step (order_once used (v ∷ seen) (p + 2) vs h.1)
  where
    fresh : ((w : ℕ) → has vs w ≡ true → has (v ∷ seen) w ≡ false) → (b : Bool) → has vs v ≡ b → has vs v ≡ false
    fresh apart true q = absurd (true≢false (sym (eq-eqb v v refl) ∙ (or_parts (eqb v v) (has seen v) (apart v q)).0))
    fresh apart false q = q

    others : ((w : ℕ) → has vs w ≡ true → has (v ∷ seen) w ≡ false) → (w : ℕ) (b : Bool) → eqb v w ≡ b → (b || has vs w) ≡ true → has seen w ≡ false
    others apart w true q k = ap (has seen) (sym (eqb-true v w q)) ∙ (or_parts (has seen v) (not (has used v)) h.0).0
    others apart w false q k = (or_parts (eqb v w) (has seen w) (apart w k)).1

    step : Distinct vs × ((w : ℕ) → has vs w ≡ true → has (v ∷ seen) w ≡ false) → Distinct (v ∷ vs) × ((w : ℕ) → has (v ∷ vs) w ≡ true → has seen w ≡ false)
    step rest = ((fresh rest.1 (has vs v) refl, rest.0), λ w k. others rest.1 w (eqb v w) refl k)
