-- What fibers made from lengths and items answer, and when they are a lawful level.
use Rattle.std.specs.Prelude.{◌≡◌, ℕ, ◌<◌, ◌≤◌, true, false, Option, List, [], map, length, get_or, Some, None, slice_index, slice_index_or, refl}
use Rattle.std.proofs.Common.{ltb, sym, ap, ◌∙◌, ⊎_elim, arith}
use Rattle.std.specs.Bool.{then_some}
use Rattle.std.specs.List.{slice_get, range_with_len}
use Rattle.std.specs.Option.{is_some, option_map, IfSome}
use Rattle.std.proofs.lemmas.Bool.{cases_lt, lt-ltb, le-ltb}
use Rattle.std.proofs.lemmas.List.FromFn.{length-map-range_with_len, get_or-map-range_with_len}
use Rattle.std.proofs.lemmas.List.{get_or_past, get_or-map, length-map, ext_get_or}
use Rattle.std.proofs.lemmas.Option.{slice_get-get_or, slice_get_past}
use Rattle.model.specs.Fibers.{fiber, coords, count_of, at_of, Lawful}
use Rattle.model.specs.Formats.{rows, Includes}
use Rattle.formats.specs.Ascents.{ascends_from}

module _ (f : ℕ) (len : ℕ → ℕ) (item : ℕ → ℕ → ℕ × ℕ) where
  pub rows_number : length (rows f len item) ≡ f
  rows_number = length-map-range_with_len (λ p. map (item p) (range_with_len 0 (len p))) 0 f

  pub rows_fiber : (p : ℕ) → p < f → fiber (rows f len item) p ≡ map (item p) (range_with_len 0 (len p))
  rows_fiber p h = get_or-map-range_with_len (λ p. map (item p) (range_with_len 0 (len p))) 0 f p p [] h (omega arith)

  pub rows_long : (p : ℕ) → p < f → length (fiber (rows f len item) p) ≡ len p
  rows_long p h = ap length (rows_fiber p h) ∙ length-map-range_with_len (item p) 0 (len p)

  pub rows_item : (p k : ℕ) → p < f → k < len p → slice_index_or (fiber (rows f len item) p) k (0, 0) ≡ item p k
  rows_item p k h i = ap (λ xs. get_or xs k (0, 0)) (rows_fiber p h) ∙ get_or-map-range_with_len (item p) 0 (len p) k k (0, 0) i (omega arith)

  pub rows_count : (p : ℕ) → p < f → Some (len p) ≡ count_of (rows f len item) p
  rows_count p h =
      let n = rows_number in
      sym (ap (option_map length) (slice_get-get_or (rows f len item) p [] (omega arith)) ∙ ap Some (rows_long p h))

  pub rows_count_none : (p : ℕ) → f ≤ p → None ≡ count_of (rows f len item) p
  rows_count_none p h = let n = rows_number in sym (ap (option_map length) (slice_get_past (rows f len item) p (omega arith)))

  pub rows_at : (p k : ℕ) → p < f → k < len p → Some (item p k) ≡ at_of (rows f len item) p k
  rows_at p k h i =
      let n = rows_long p h in
      sym (slice_get-get_or (fiber (rows f len item) p) k (0, 0) (omega arith) ∙ ap Some (rows_item p k h i))

  pub rows_at_past : (p k : ℕ) → p < f → len p ≤ k → None ≡ at_of (rows f len item) p k
  rows_at_past p k h i = let n = rows_long p h in sym (slice_get_past (fiber (rows f len item) p) k (omega arith))

  pub rows_at_none : (p k : ℕ) → f ≤ p → None ≡ at_of (rows f len item) p k
  rows_at_none p k h = let n = rows_number in sym (ap (λ xs. slice_get xs k) (get_or_past (rows f len item) p [] (omega arith)))

  -- an answer that hangs on a test
  pub rows_count_tested : (p : ℕ) (o : Option ℕ) → o ≡ then_some (ltb p f) (len p) → o ≡ count_of (rows f len item) p
  rows_count_tested p o e =
      e
      ∙ ⊎_elim
      (λ h. ap (λ b. then_some b (len p)) (lt-ltb p f h) ∙ rows_count p h)
      (λ h. ap (λ b. then_some b (len p)) (le-ltb p f h) ∙ rows_count_none p h)
      (cases_lt p f)

  rows_at_is : (p k : ℕ) (o : Option (ℕ × ℕ)) → p < f → k < len p → is_some o ≡ true → IfSome o (λ x. x ≡ item p k) → o ≡ at_of (rows f len item) p k
  rows_at_is p k None h i e is = absurd (let z : ◌≡◌ {A = ℕ} 0 1 = cc in omega arith)
  rows_at_is p k (Some x) h i e is = ap Some is ∙ rows_at p k h i

  none_is : (o : Option (ℕ × ℕ)) → is_some o ≡ false → o ≡ None
  none_is None e = refl
  none_is (Some x) e = absurd (let z : ◌≡◌ {A = ℕ} 0 1 = cc in omega arith)

  pub rows_at_tested : (p k : ℕ) (o : Option (ℕ × ℕ)) → p < f → is_some o ≡ ltb k (len p) → IfSome o (λ x. x ≡ item p k) → o ≡ at_of (rows f len item) p k
  rows_at_tested p k o h e is =
      ⊎_elim
      (λ lt. rows_at_is p k o h lt (e ∙ lt-ltb k (len p) lt) is)
      (λ ge. none_is o (e ∙ le-ltb k (len p) ge) ∙ rows_at_past p k h ge)
      (cases_lt k (len p))

  pub rows_at_no_fiber : (p k : ℕ) (o : Option (ℕ × ℕ)) → f ≤ p → is_some o ≡ ltb p f → o ≡ at_of (rows f len item) p k
  rows_at_no_fiber p k o h e = none_is o (e ∙ le-ltb p f h) ∙ rows_at_none p k h

  pub rows_coords_long : (p : ℕ) → p < f → length (coords (fiber (rows f len item) p)) ≡ len p
  rows_coords_long p h = length-map (fiber (rows f len item) p) (λ x. x.0) ∙ rows_long p h

  pub rows_coord : (p k : ℕ) → p < f → k < len p → slice_index (coords (fiber (rows f len item) p)) k ≡ (item p k).0
  rows_coord p k h i =
      let n = rows_long p h in
      get_or-map (λ x. x.0) (fiber (rows f len item) p) k (0, 0) 0 (omega arith) ∙ ap (λ x. x.0) (rows_item p k h i)

  pub rows_coords : (p : ℕ) (xs : List ℕ) → p < f → length xs ≡ len p → ((k : ℕ) → k < len p → (item p k).0 ≡ slice_index xs k)
      → coords (fiber (rows f len item) p) ≡ xs
  rows_coords p xs h n same =
      let m = rows_coords_long p h in
      ext_get_or 0 _ xs (omega arith) (λ k i. rows_coord p k h (omega arith) ∙ same k (omega arith))

  pub rows_includes : (owners coordinates : List ℕ)
      → ((k : ℕ) → k < length owners → (j : ℕ) × (slice_index owners k < f) × (j < len (slice_index owners k)) × ((item (slice_index owners k) j).0 ≡ slice_index coordinates k))
      → Includes owners coordinates (rows f len item)
  rows_includes owners coordinates has k h =
      let w = has k h in
      (w.0, (let n = rows_long (slice_index owners k) w.1 in omega (arith, w.2)), ap (λ x. x.0) (rows_item (slice_index owners k) w.0 w.1 w.2) ∙ w.3)

-- The laws of a level, of the lengths and items.
pub record Sound (e f n : ℕ) (len : ℕ → ℕ) (item : ℕ → ℕ → ℕ × ℕ) : Type 0 where
  pub ascends : (p j k : ℕ) → p < f → j < k → k < len p → (item p j).0 < (item p k).0
  pub within : (p k : ℕ) → p < f → k < len p → (item p k).0 < e
  pub below : (p k : ℕ) → p < f → k < len p → (item p k).1 < n
  pub used : (j : ℕ) → j < n → (p : ℕ) × (k : ℕ) × (p < f) × (k < len p) × ((item p k).1 ≡ j)
  pub once : (p k q m : ℕ) → p < f → k < len p → q < f → m < len q → (item p k).1 ≡ (item q m).1 → (p ≡ q) × (k ≡ m)

pub rows_lawful : (e f n : ℕ) (len : ℕ → ℕ) (item : ℕ → ℕ → ℕ × ℕ) → Sound e f n len item → Lawful e f n (rows f len item)
rows_lawful e f n len item s =
    let long = rows_long f len item in
    let at = rows_item f len item in
    let fits : (p k : ℕ) → p < f → k < length (fiber (rows f len item) p) → k < len p = λ p k h i. let e = long p h in omega arith in
    record {
      number = rows_number f len item;
      ascends = λ p h. let m = rows_coords_long f len item p h in
          ascends_from (coords (fiber (rows f len item) p)) (λ j k l i.
          omega (arith, s.ascends p j k h l (omega arith), rows_coord f len item p j h (omega arith), rows_coord f len item p k h (omega arith)));
      within = λ p k h i. omega (arith, s.within p k h (fits p k h i), ap (λ x. x.0) (at p k h (fits p k h i)));
      below = λ p k h i. omega (arith, s.below p k h (fits p k h i), ap (λ x. x.1) (at p k h (fits p k h i)));
      used = λ j h. let u = s.used j h in
          (u.0, u.1, u.2, (let e = long u.0 u.2 in omega (arith, u.3)), ap (λ x. x.1) (at u.0 u.1 u.2 u.3) ∙ u.4);
      once = λ p k q m hp hk hq hm e. s.once p k q m hp (fits p k hp hk) hq (fits q m hq hm)
          (sym (ap (λ x. x.1) (at p k hp (fits p k hp hk))) ∙ e ∙ ap (λ x. x.1) (at q m hq (fits q m hq hm)));
    }
