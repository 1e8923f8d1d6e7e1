-- Variables with their extents, one on. Assumes nothing.
use Rattle.std.proofs.Common.{◌≡◌, ℕ, ◌+◌, ◌<◌, ◌≤◌, Bool, true, false, cond, not, eqb, List, [], ◌∷◌, ◌++◌, map, length, get_or, drop, Some, None, Option, unwrap_or, sym, refl, ap, ◌∙◌}
use Rattle.std.specs.List.{find, flat_map, zip}
use Rattle.std.specs.Option.{option_map}
use Rattle.std.proofs.lemmas.List.{at_drop_more, at_drop_all}
use Rattle.model.specs.Conditions.{first_fault, Sized, sized_vars, extent_in}
use Rattle.lines.specs.Sizes.{first_extent}

-- a look-up along the variables of one access
pub extent_by_find : (v : ℕ) (xs : List (ℕ × ℕ)) (es : List ℕ) → option_map (λ (p : (ℕ × ℕ) × ℕ). p.1) (find (λ (p : (ℕ × ℕ) × ℕ). eqb p.0.1 v) (zip xs es)) ≡ first_extent (sized_vars xs es) v
extent_by_find v [] es = refl
extent_by_find v (x ∷ xs) [] = refl
extent_by_find v (x ∷ xs) (e ∷ es) = by (eqb x.1 v) (find (λ (p : (ℕ × ℕ) × ℕ). eqb p.0.1 v) (zip xs es)) (first_extent (sized_vars xs es) v) (extent_by_find v xs es)
  where
    by : (b : Bool) (o : Option ((ℕ × ℕ) × ℕ)) (r : Option ℕ) → option_map (λ (p : (ℕ × ℕ) × ℕ). p.1) o ≡ r → option_map (λ (p : (ℕ × ℕ) × ℕ). p.1) (cond b (Some (x, e)) o) ≡ cond b (Some e) r
    by true o r h = refl
    by false o r h = h

-- the first whose extent is another than one that is looked up
pub differ_by_find : (f : ℕ → ℕ) (xs : List (ℕ × ℕ)) (es : List ℕ) → option_map (λ (p : (ℕ × ℕ) × ℕ). p.0.0) (find (λ (p : (ℕ × ℕ) × ℕ). not (eqb p.1 (f p.0.1))) (zip xs es)) ≡ first_fault (map (λ (z : Sized). (z.place, not (eqb z.extent (f z.var)))) (sized_vars xs es))
differ_by_find f [] es = refl
differ_by_find f (x ∷ xs) [] = refl
differ_by_find f (x ∷ xs) (e ∷ es) = by (not (eqb e (f x.1))) (find (λ (p : (ℕ × ℕ) × ℕ). not (eqb p.1 (f p.0.1))) (zip xs es)) (first_fault (map (λ (z : Sized). (z.place, not (eqb z.extent (f z.var)))) (sized_vars xs es))) (differ_by_find f xs es)
  where
    by : (b : Bool) (o : Option ((ℕ × ℕ) × ℕ)) (r : Option ℕ) → option_map (λ (p : (ℕ × ℕ) × ℕ). p.0.0) o ≡ r → option_map (λ (p : (ℕ × ℕ) × ℕ). p.0.0) (cond b (Some (x, e)) o) ≡ cond b (Some x.0) r
    by true o r h = refl
    by false o r h = h

-- the extent in two lists, one behind the other
pub extent_in_append : (xs ys : List Sized) (v : ℕ) → extent_in (xs ++ ys) v ≡ unwrap_or (first_extent xs v) (extent_in ys v)
extent_in_append [] ys v = refl
extent_in_append (x ∷ xs) ys v = by (eqb x.var v) x.extent (first_extent xs v) (extent_in ys v) (extent_in (xs ++ ys) v) (extent_in_append xs ys v)
  where
    by : (b : Bool) (e : ℕ) (o : Option ℕ) (y w : ℕ) → w ≡ unwrap_or o y → cond b e w ≡ unwrap_or (cond b (Some e) o) y
    by true e o y w h = refl
    by false e o y w h = h

-- a look-up along the accesses
module _ {X : Type 0} (g : X → List Sized) (xs : List X) (i : ℕ) (d : X) (v whole : ℕ) (inv : extent_in (flat_map g (drop i xs)) v ≡ whole) (h : i < length xs) where
  at_access : (o : Option ℕ) → o ≡ first_extent (g (get_or xs i d)) v → unwrap_or o (extent_in (flat_map g (drop (i + 1) xs)) v) ≡ whole
  at_access o e =
      ap (λ x. unwrap_or x (extent_in (flat_map g (drop (i + 1) xs)) v)) e
      ∙ sym (extent_in_append (g (get_or xs i d)) (flat_map g (drop (i + 1) xs)) v) ∙ sym (at_drop_more (λ l. extent_in (flat_map g l) v) xs i d h) ∙ inv

  pub extent_found : (e : ℕ) → Some e ≡ first_extent (g (get_or xs i d)) v → e ≡ whole
  extent_found e is = at_access (Some e) is

  pub extent_on : None ≡ first_extent (g (get_or xs i d)) v → extent_in (flat_map g (drop (i + 1) xs)) v ≡ whole
  extent_on is = at_access None is

pub extent_none : {X : Type 0} (g : X → List Sized) (xs : List X) (i v whole : ℕ) → extent_in (flat_map g (drop i xs)) v ≡ whole → length xs ≤ i → 0 ≡ whole
extent_none g xs i v whole inv h = sym (at_drop_all (λ l. extent_in (flat_map g l) v) xs i h) ∙ inv
