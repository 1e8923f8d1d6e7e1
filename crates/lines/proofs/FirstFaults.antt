-- The first fault of a list of checks, one check on. Assumes nothing.
use Rattle.std.proofs.Common.{◌≡◌, ℕ, zero, suc, ◌+◌, ◌<◌, ◌≤◌, Bool, true, false, cond, not, Bor, List, [], ◌∷◌, ◌++◌, map, length, get_or, slice_get, drop, Some, None, Option, sym, refl, ap, ◌∙◌}
use Rattle.std.proofs.lemmas.List.{at_drop_more, at_drop_all}
use Rattle.std.specs.List.{find, flat_map}
use Rattle.std.specs.Bool.{then_some}
use Rattle.std.specs.Slice.{IsItemAt}
use Rattle.std.proofs.lemmas.Option.{slice_get-map, slice_get_past, slice_get_read}
use Rattle.lines.specs.declared.accesses.Access.{Access}
use Rattle.std.specs.Option.{option_map}
use Rattle.model.specs.Conditions.{Check, first_fault, beyond}
use Rattle.std.specs.Option.{option_or}

-- the first that fails a test, by a search for it
pub fault_by_find : {X : Type 0} (place : X → ℕ) (test : X → Bool) (xs : List X) → option_map place (find test xs) ≡ first_fault (map (λ x. (place x, test x)) xs)
fault_by_find place test [] = refl
fault_by_find {X = X} place test (x ∷ xs) = by (test x) (find test xs) (first_fault (map (λ y. (place y, test y)) xs)) (fault_by_find place test xs)
  where
    by : (b : Bool) (o : Option X) (r : Option ℕ) → option_map place o ≡ r → option_map place (cond b (Some x) o) ≡ cond b (Some (place x)) r
    by true o r h = refl
    by false o r h = h

-- at fault from the nth on
pub beyond_get : (n : ℕ) (ps : List ℕ) → slice_get ps n ≡ first_fault (beyond n ps)
beyond_get zero [] = refl
beyond_get zero (p ∷ ps) = refl
beyond_get (suc n) [] = refl
beyond_get (suc n) (p ∷ ps) = beyond_get n ps

append_by : (x : ℕ) (b : Bool) (o p q : Option ℕ) → o ≡ option_or p q → cond b (Some x) o ≡ option_or (cond b (Some x) p) q
append_by x true o p q e = refl
append_by x false o p q e = e

pub first_fault_append : (xs ys : List Check) → first_fault (xs ++ ys) ≡ option_or (first_fault xs) (first_fault ys)
first_fault_append [] ys = refl
first_fault_append (x ∷ xs) ys = append_by x.0 x.1 (first_fault (xs ++ ys)) (first_fault xs) (first_fault ys) (first_fault_append xs ys)

-- checks of each, one on
module _ {X : Type 0} (g : X → List Check) (xs : List X) (i : ℕ) (d : X) (whole : Option ℕ) (inv : first_fault (flat_map g (drop i xs)) ≡ whole) (h : i < length xs) where
  pub checks_at : (o : Option ℕ) → o ≡ first_fault (g (get_or xs i d)) → option_or o (first_fault (flat_map g (drop (i + 1) xs))) ≡ whole
  checks_at o e =
      ap (λ x. option_or x (first_fault (flat_map g (drop (i + 1) xs)))) e
      ∙ sym (first_fault_append (g (get_or xs i d)) (flat_map g (drop (i + 1) xs)))
      ∙ sym (at_drop_more (λ l. first_fault (flat_map g l)) xs i d h) ∙ inv

pub checks_none : {X : Type 0} (g : X → List Check) (xs : List X) (i : ℕ) (whole : Option ℕ) → first_fault (flat_map g (drop i xs)) ≡ whole → length xs ≤ i → None ≡ whole
checks_none g xs i whole inv h = sym (at_drop_all (λ l. first_fault (flat_map g l)) xs i h) ∙ inv

-- a check before others
pub first_fault_cons : (x : Check) (xs : List Check) → option_or (cond x.1 (Some x.0) None) (first_fault xs) ≡ first_fault (x ∷ xs)
first_fault_cons x xs = by x.1
  where
    by : (b : Bool) → option_or (cond b (Some x.0) None) (first_fault xs) ≡ cond b (Some x.0) (first_fault xs)
    by true = refl
    by false = refl

-- a value of a value
pub map_through : {A B C : Type 0} (v : A → B) (p : B → C) (o : Option A) → option_map (λ a. p (v a)) o ≡ option_map p (option_map v o)
map_through v p None = refl
map_through v p (Some a) = refl

-- an answer where a test holds
pub then_some_is : (b : Bool) (n : ℕ) → then_some b n ≡ cond b (Some n) None
then_some_is true n = refl
then_some_is false n = refl

-- an answer where a test fails
pub lacks_is : (b : Bool) (n : ℕ) → then_some (not b) n ≡ cond b None (Some n)
lacks_is true n = refl
lacks_is false n = refl

-- the place of an access that is looked up
pub got_place : (xs : List Access) (n : ℕ) (r : Option (Bor Access)) → IsItemAt xs n r → option_map (λ (a : Bor Access). a.now.place) r ≡ slice_get (map (λ (e : Access). e.place) xs) n
got_place xs n None h = sym (slice_get-map (λ (e : Access). e.place) xs n ∙ ap (option_map (λ (e : Access). e.place)) (slice_get_past xs n h.3))
got_place xs n (Some x) h = sym (slice_get-map (λ (e : Access). e.place) xs n ∙ ap (option_map (λ (e : Access). e.place)) (slice_get_read xs (length xs) n x.now refl h.3.0 h.1))
