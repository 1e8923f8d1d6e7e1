-- The lists of a level, picked from rows with an owner each: they are lists to build from, and have every row's coordinate.
use Rattle.std.proofs.Common.{◌≡◌, ℕ, zero, suc, ◌+◌, ◌<◌, ◌≤◌, Bool, true, false, cond, List, [], ◌∷◌, ◌++◌, map, length, get_or, take, drop, sym, refl, ap, ◌∙◌, ap₂, ⊎_elim, arith}
use mathlib.Core.Bool.{false≢true}
use Rattle.std.specs.List.{AllByRecursion}
use Rattle.std.proofs.ByRecursion.{All-get_or}
use Rattle.std.proofs.lemmas.List.{length-map, get_or-map, get_or-take, take-take, drop_more, drop_all, map_push, append_assoc, append-nil}
use Rattle.formats.specs.Entries.{owners_of, coordinates_of}
use Rattle.formats.specs.declared.entry.Entry.{Entry}
use Rattle.model.specs.Formats.{LevelSize, Listed}
use Rattle.model.specs.Tensors.{same}
use Rattle.model.specs.Running.{before}
use Rattle.model.specs.Stores.{fronts, outside}
use Rattle.model.proofs.Assignments.{same_is, same_self}
use Rattle.plans.specs.Rows.{Rising, Ordered, rows_of, nth_row, next_same}
use Rattle.plans.proofs.Entries.{rows_at, rows_long}
use Rattle.plans.proofs.Numbers.{fronts_more, next_order, row_long, row_within}
use Rattle.plans.proofs.Orders.{front_apart}
use Rattle.tensors.specs.Fillings.{picked, pair_of, Owners}

tails : (d f o : ℕ) (os cs : List ℕ) (css : List (List ℕ)) → Owners d f (o ∷ os) (cs ∷ css) → Owners d f os css
tails d f o os cs css w = record {
  long = omega (arith, w.long);
  few = λ k h. w.few (suc k) (omega arith);
  one = λ j k h i. w.one (suc j) (suc k) (omega arith) (omega arith);
  all = λ j k h i. w.all (suc j) (suc k) (omega arith) (omega arith);
}

module _ (d : ℕ) where
  picked_yes : (o : ℕ) (os cs : List ℕ) (css : List (List ℕ)) → next_same (suc d) cs css ≡ false → picked d (o ∷ os) (cs ∷ css) ≡ (o, get_or cs d 0) ∷ picked d os css
  picked_yes o os cs css e = ap (λ b. cond b (picked d os css) ((o, get_or cs d 0) ∷ picked d os css)) e

  picked_no : (o : ℕ) (os cs : List ℕ) (css : List (List ℕ)) → next_same (suc d) cs css ≡ true → picked d (o ∷ os) (cs ∷ css) ≡ picked d os css
  picked_no o os cs css e = ap (λ b. cond b (picked d os css) ((o, get_or cs d 0) ∷ picked d os css)) e

  pub picked_long : (os : List ℕ) (css : List (List ℕ)) → length os ≡ length css → Rising css → length (picked d os css) ≡ length (fronts (suc d) css)
  picked_long [] [] h r = refl
  picked_long [] (cs ∷ css) h r = absurd (omega arith)
  picked_long (o ∷ os) [] h r = absurd (omega arith)
  picked_long (o ∷ os) (cs ∷ css) h r =
      go (next_same (suc d) cs css) refl (picked_long os css (omega arith) r.1) (fronts_more (suc d) cs css r)
    where
      go : (b : Bool) → next_same (suc d) cs css ≡ b → length (picked d os css) ≡ length (fronts (suc d) css)
          → length (fronts (suc d) (cs ∷ css)) ≡ cond {A = ℕ} (next_same (suc d) cs css) 0 1 + length (fronts (suc d) css)
          → length (picked d (o ∷ os) (cs ∷ css)) ≡ length (fronts (suc d) (cs ∷ css))
      go true e ih n = ap length (picked_no o os cs css e) ∙ ih ∙ sym (n ∙ ap (λ b. cond {A = ℕ} b 0 1 + length (fronts (suc d) css)) e ∙ (let z : 0 + length (fronts (suc d) css) ≡ length (fronts (suc d) css) = omega arith in z))
      go false e ih n = ap length (picked_yes o os cs css e) ∙ ap suc ih ∙ sym (n ∙ ap (λ b. cond {A = ℕ} b 0 1 + length (fronts (suc d) css)) e ∙ (let z : 1 + length (fronts (suc d) css) ≡ suc (length (fronts (suc d) css)) = omega arith in z))

  -- what holds of each row's owner and coordinate holds of each pair picked
  picked_all : (P : ℕ × ℕ → Type 0) (os : List ℕ) (css : List (List ℕ)) → length os ≡ length css
      → ((k : ℕ) → k < length css → P (get_or os k 0, get_or (get_or css k []) d 0)) → AllByRecursion P (picked d os css)
  picked_all P [] css h a = tt
  picked_all P (o ∷ os) [] h a = tt
  picked_all P (o ∷ os) (cs ∷ css) h a =
      go (next_same (suc d) cs css) (picked_all P os css (omega arith) (λ k i. a (suc k) (omega arith)))
    where
      go : (b : Bool) → AllByRecursion P (picked d os css) → AllByRecursion P (cond b (picked d os css) ((o, get_or cs d 0) ∷ picked d os css))
      go true ih = ih
      go false ih = (a 0 (omega arith), ih)

  -- pairs of one owner ascend
  abbrev Climbs : List (ℕ × ℕ) → Type 0
  Climbs [] = Unit {0}
  Climbs (x ∷ xs) = AllByRecursion (λ y. x.0 ≡ y.0 → x.1 < y.1) xs × Climbs xs

  climbs_at : (xs : List (ℕ × ℕ)) → Climbs xs → (j k : ℕ) → j < k → k < length xs → get_or (map (λ x. x.0) xs) j 0 ≡ get_or (map (λ x. x.0) xs) k 0
      → get_or (map (λ x. x.1) xs) j 0 < get_or (map (λ x. x.1) xs) k 0
  climbs_at [] c j k h i e = absurd (omega arith)
  climbs_at (x ∷ xs) c j zero h i e = absurd (omega arith)
  climbs_at (x ∷ xs) c zero (suc k) h i e =
      let a = All-get_or (λ y. x.0 ≡ y.0 → x.1 < y.1) xs k (0, 0) (omega arith) c.0 in
      let m0 = get_or-map (λ y. y.0) xs k (0, 0) 0 (omega arith) in
      let m1 = get_or-map (λ y. y.1) xs k (0, 0) 0 (omega arith) in
      omega (arith, a (e ∙ m0), m1)
  climbs_at (x ∷ xs) c (suc j) (suc k) h i e = climbs_at xs c.1 j k (omega arith) (omega arith) e

  module _ (es : List ℕ) (f : ℕ) (deep : d < length es) where
    long_row : (cs : List ℕ) → outside es cs ≡ false → d < length cs
    long_row cs q = omega (arith, row_long es cs q)

    -- of rows with one front, the last of one longer front is below each later row
    climb : (o : ℕ) (os cs : List ℕ) (css : List (List ℕ)) → Owners d f (o ∷ os) (cs ∷ css) → AllByRecursion (λ cs. outside es cs ≡ false) (cs ∷ css) → Rising (cs ∷ css)
        → next_same (suc d) cs css ≡ false → (k : ℕ) → k < length css → o ≡ get_or os k 0 → get_or cs d 0 < get_or (get_or css k []) d 0
    climb o os cs css w i r e k h s =
        let ds = get_or css k [] in
        let lt : before cs ds ≡ true = All-get_or (λ ds. before cs ds ≡ true) css k [] h r.0 in
        let inside : outside es ds ≡ false = All-get_or (λ cs. outside es cs ≡ false) css k [] h i.1 in
        ⊎_elim
        (λ x. absurd (false≢true (sym (apart css k h r.0 r.1 e) ∙ ap (same (take (suc d) cs)) (sym x.0) ∙ same_self (take (suc d) cs))))
        (λ x. x)
        (next_order d cs ds lt (long_row cs i.0) (long_row ds inside) (w.one 0 (suc k) (omega arith) (omega arith) s))
      where
        apart : (xs : List (List ℕ)) (k : ℕ) → k < length xs → AllByRecursion (λ ds. before cs ds ≡ true) xs → Rising xs → next_same (suc d) cs xs ≡ false
            → same (take (suc d) cs) (take (suc d) (get_or xs k [])) ≡ false
        apart [] k h b r e = absurd (omega arith)
        apart (x ∷ xs) zero h b r e = e
        apart (x ∷ xs) (suc k) h b r e =
            front_apart (suc d) cs x (get_or xs k []) b.0 (All-get_or (λ ds. before x ds ≡ true) xs k [] (omega arith) r.0) e

    picked_climbs : (os : List ℕ) (css : List (List ℕ)) → Owners d f os css → AllByRecursion (λ cs. outside es cs ≡ false) css → Rising css → Climbs (picked d os css)
    picked_climbs [] css w i r = tt
    picked_climbs (o ∷ os) [] w i r = tt
    picked_climbs (o ∷ os) (cs ∷ css) w i r =
        go (next_same (suc d) cs css) refl (picked_climbs os css (tails d f o os cs css w) i.1 r.1)
      where
        go : (b : Bool) → next_same (suc d) cs css ≡ b → Climbs (picked d os css) → Climbs (cond b (picked d os css) ((o, get_or cs d 0) ∷ picked d os css))
        go true e ih = ih
        go false e ih =
            (picked_all (λ y. o ≡ y.0 → get_or cs d 0 < y.1) os css (omega (arith, w.long)) (λ k h s. climb o os cs css w i r e k h s), ih)

    module _ (os : List ℕ) (css : List (List ℕ)) (w : Owners d f os css) (o : Ordered es css) where
      abbrev firsts : List ℕ
      firsts = map (λ x. x.0) (picked d os css)

      abbrev seconds : List ℕ
      seconds = map (λ x. x.1) (picked d os css)

      count : length (picked d os css) ≡ length (fronts (suc d) css)
      count = picked_long os css w.long o.rising

      pub picked_listed : (s : LevelSize) → s.extent ≡ get_or es d 0 → s.fibers ≡ f → s.entries ≡ length (fronts (suc d) css) → Listed s firsts seconds
      picked_listed s e b n = record {
        owners_long = length-map (picked d os css) (λ x. x.0) ∙ count ∙ sym n;
        coordinates_long = length-map (picked d os css) (λ x. x.1) ∙ count ∙ sym n;
        owned = λ k h.
            let a = All-get_or (λ x. x.0 < f) (picked d os css) k (0, 0) (omega (arith, count)) (picked_all (λ x. x.0 < f) os css w.long w.few) in
            omega (arith, a, get_or-map (λ x. x.0) (picked d os css) k (0, 0) 0 (omega (arith, count)));
        within = λ k h.
            let a = All-get_or (λ x. x.1 < get_or es d 0) (picked d os css) k (0, 0) (omega (arith, count))
            (picked_all (λ x. x.1 < get_or es d 0) os css w.long (λ k i. row_within es (get_or css k []) d (All-get_or (λ cs. outside es cs ≡ false) css k [] i o.within) deep)) in
            omega (arith, a, get_or-map (λ x. x.1) (picked d os css) k (0, 0) 0 (omega (arith, count)));
        ascends = λ j k h i. climbs_at (picked d os css) (picked_climbs os css w o.within o.rising) j k h (omega (arith, count));
      }

  -- each row's owner and coordinate stand among the pairs
  pub picked_has : (f : ℕ) (os : List ℕ) (css : List (List ℕ)) → Owners d f os css → ((k : ℕ) → k < length css → d < length (get_or css k [])) → (k : ℕ) → k < length css
      → (j : ℕ) × (j < length (picked d os css)) × (get_or (picked d os css) j (0, 0) ≡ (get_or os k 0, get_or (get_or css k []) d 0))
  picked_has f [] [] w l k h = absurd (omega arith)
  picked_has f [] (cs ∷ css) w l k h = absurd (omega (arith, w.long))
  picked_has f (o ∷ os) [] w l k h = absurd (omega arith)
  picked_has f (o ∷ os) (cs ∷ css) w l (suc k) h =
      go (next_same (suc d) cs css) (picked_has f os css (tails d f o os cs css w) (λ m i. l (suc m) (omega arith)) k (omega arith))
    where
      go : (b : Bool) → (j : ℕ) × (j < length (picked d os css)) × (get_or (picked d os css) j (0, 0) ≡ (get_or os k 0, get_or (get_or css k []) d 0))
          → (j : ℕ) × (j < length (cond b (picked d os css) ((o, get_or cs d 0) ∷ picked d os css)))
          × (get_or (cond b (picked d os css) ((o, get_or cs d 0) ∷ picked d os css)) j (0, 0) ≡ (get_or os k 0, get_or (get_or css k []) d 0))
      go true r = r
      go false r = (suc r.0, omega (arith, r.1), r.2)
  picked_has f (o ∷ os) (cs ∷ []) w l zero h = (0, omega arith, refl)
  picked_has f (o ∷ os) (cs ∷ ds ∷ css) w l zero h =
      go (same (take (suc d) cs) (take (suc d) ds)) refl (picked_has f os (ds ∷ css) (tails d f o os cs (ds ∷ css) w) (λ m i. l (suc m) (omega arith)) zero (omega arith))
    where
      -- the next row has the same owner and coordinate
      again : take (suc d) cs ≡ take (suc d) ds → ◌≡◌ {A = ℕ × ℕ} (get_or os 0 0, get_or ds d 0) (o, get_or cs d 0)
      again e =
          let own = w.all 0 1 (omega arith) (omega arith) (sym (take-take d (suc d) cs (omega arith)) ∙ ap (take d) e ∙ take-take d (suc d) ds (omega arith)) in
          let coord = sym (get_or-take (suc d) cs d 0 (omega arith)) ∙ ap (λ x. get_or x d 0) e ∙ get_or-take (suc d) ds d 0 (omega arith) in
          ap₂ (λ (x y : ℕ). (x, y)) (sym own) (sym coord)

      go : (b : Bool) → same (take (suc d) cs) (take (suc d) ds) ≡ b
          → (j : ℕ) × (j < length (picked d os (ds ∷ css))) × (get_or (picked d os (ds ∷ css)) j (0, 0) ≡ (get_or os 0 0, get_or ds d 0))
          → (j : ℕ) × (j < length (cond b (picked d os (ds ∷ css)) ((o, get_or cs d 0) ∷ picked d os (ds ∷ css))))
          × (get_or (cond b (picked d os (ds ∷ css)) ((o, get_or cs d 0) ∷ picked d os (ds ∷ css))) j (0, 0) ≡ (o, get_or cs d 0))
      go true e r = (r.0, r.1, r.2 ∙ again (same_is (take (suc d) cs) (take (suc d) ds) e))
      go false e r = (0, omega arith, refl)

  -- the step of a loop that picks
  module _ (os : List ℕ) (css : List (List ℕ)) (k : ℕ) (h : k < length os) (i : k < length css) where
    at : picked d (drop k os) (drop k css) ≡ picked d (get_or os k 0 ∷ drop (k + 1) os) (get_or css k [] ∷ drop (k + 1) css)
    at = ap₂ (picked d) (drop_more os k 0 h) (drop_more css k [] i)

    pub picks_more : next_same (suc d) (get_or css k []) (drop (k + 1) css) ≡ false
        → picked d (drop k os) (drop k css) ≡ (get_or os k 0, get_or (get_or css k []) d 0) ∷ picked d (drop (k + 1) os) (drop (k + 1) css)
    picks_more e = at ∙ picked_yes (get_or os k 0) (drop (k + 1) os) (get_or css k []) (drop (k + 1) css) e

    pub picks_again : next_same (suc d) (get_or css k []) (drop (k + 1) css) ≡ true → picked d (drop k os) (drop k css) ≡ picked d (drop (k + 1) os) (drop (k + 1) css)
    picks_again e = at ∙ picked_no (get_or os k 0) (drop (k + 1) os) (get_or css k []) (drop (k + 1) css) e

  pub picks_none : (os : List ℕ) (css : List (List ℕ)) (k : ℕ) → length os ≤ k → picked d (drop k os) (drop k css) ≡ []
  picks_none os css k h = ap (λ x. picked d x (drop k css)) (drop_all k os h)

-- the same of entries that a loop collects
module _ (d r n : ℕ) (cs os : List ℕ) (long : length os ≡ n) (all : List (ℕ × ℕ)) (xs : List Entry) (k : ℕ) (h : k < n)
    (inv : map pair_of xs ++ picked d (drop k os) (drop k (rows_of r n cs)) ≡ all) where
  here : get_or (rows_of r n cs) k [] ≡ nth_row r cs k
  here = rows_at r n cs k h

  abbrev rest : List (ℕ × ℕ)
  rest = picked d (drop (k + 1) os) (drop (k + 1) (rows_of r n cs))

  same_next : next_same (suc d) (get_or (rows_of r n cs) k []) (drop (k + 1) (rows_of r n cs)) ≡ next_same (d + 1) (nth_row r cs k) (drop (k + 1) (rows_of r n cs))
  same_next = ap₂ (λ x y. next_same x y (drop (k + 1) (rows_of r n cs))) (let e : suc d ≡ d + 1 = omega arith in e) here

  pub pick_more : (e : Entry) → e.owner ≡ get_or os k 0 → e.coordinate ≡ get_or (nth_row r cs k) d 0
      → next_same (d + 1) (nth_row r cs k) (drop (k + 1) (rows_of r n cs)) ≡ false
      → map pair_of (xs ++ e ∷ []) ++ picked d (drop (k + 1) os) (drop (k + 1) (rows_of r n cs)) ≡ all
  pick_more e a b s =
      ap (λ z. z ++ rest) (map_push pair_of xs e) ∙ append_assoc (map pair_of xs) (pair_of e ∷ []) rest
      ∙ ap (λ (z : ℕ × ℕ). map pair_of xs ++ (z ∷ rest)) (ap₂ (λ (x y : ℕ). (x, y)) a (b ∙ ap (λ y. get_or y d 0) (sym here)))
      ∙ ap (λ z. map pair_of xs ++ z) (sym (picks_more d os (rows_of r n cs) k (omega arith) (omega (arith, rows_long r n cs)) (same_next ∙ s)))
      ∙ inv

  pub pick_again : next_same (d + 1) (nth_row r cs k) (drop (k + 1) (rows_of r n cs)) ≡ true
      → map pair_of xs ++ picked d (drop (k + 1) os) (drop (k + 1) (rows_of r n cs)) ≡ all
  pick_again s =
      ap (λ z. map pair_of xs ++ z) (sym (picks_again d os (rows_of r n cs) k (omega arith) (omega (arith, rows_long r n cs)) (same_next ∙ s))) ∙ inv

pub pick_all : (d : ℕ) (os : List ℕ) (css : List (List ℕ)) (all : List (ℕ × ℕ)) (xs : List Entry) (k : ℕ) → length os ≤ k
    → map pair_of xs ++ picked d (drop k os) (drop k css) ≡ all → map pair_of xs ≡ all
pick_all d os css all xs k h inv = sym (append-nil (map pair_of xs)) ∙ ap (λ z. map pair_of xs ++ z) (sym (picks_none d os css k h)) ∙ inv

-- entries as two lists, and as pairs
owners_paired : (xs : List Entry) → owners_of xs ≡ map (λ x. x.0) (map pair_of xs)
owners_paired [] = refl
owners_paired (e ∷ xs) = ap (λ (z : List ℕ). e.owner ∷ z) (owners_paired xs)

coordinates_paired : (xs : List Entry) → coordinates_of xs ≡ map (λ x. x.1) (map pair_of xs)
coordinates_paired [] = refl
coordinates_paired (e ∷ xs) = ap (λ (z : List ℕ). e.coordinate ∷ z) (coordinates_paired xs)

pub picked_owners : (xs : List Entry) (ps : List (ℕ × ℕ)) → map pair_of xs ≡ ps → owners_of xs ≡ map (λ x. x.0) ps
picked_owners xs ps is = owners_paired xs ∙ ap (map (λ x. x.0)) is

pub picked_coordinates : (xs : List Entry) (ps : List (ℕ × ℕ)) → map pair_of xs ≡ ps → coordinates_of xs ≡ map (λ x. x.1) ps
picked_coordinates xs ps is = coordinates_paired xs ∙ ap (map (λ x. x.1)) is
