-- How many fronts rising rows have: counted row by row, bounded by the extents, and as many as rows at full depth.
use Rattle.std.proofs.Common.{◌≡◌, ℕ, zero, suc, ◌+◌, ◌*◌, ◌<◌, ◌≤◌, Bool, true, false, cond, not, eqb, ltb, leb, ◌⊎◌, List, [], ◌∷◌, length, get_or, take, drop, sym, refl, ap, ◌∙◌, subst, ap₂, inl, inr, ⊎_elim, true≢false, add-mul, arith}
use mathlib.Core.Bool.{false≢true}
use Rattle.std.specs.List.{AllByRecursion, filter, range_with_len}
use Rattle.std.proofs.ByRecursion.{All-weaker}
use Rattle.std.proofs.lemmas.List.{take_all, take-take, drop_all}
use Rattle.std.proofs.lemmas.Bool.{eqb-true, ltb-true, or_parts, leb-false}
use Rattle.model.specs.Tensors.{same}
use Rattle.model.specs.Running.{before}
use Rattle.model.specs.Stores.{outside, fronts}
use Rattle.model.proofs.Assignments.{same_is, same_self}
use Rattle.plans.specs.Rows.{Rising, Ordered, rows_of, nth_row, next_same}
use Rattle.plans.proofs.Orders.{seen_next, before_differs}
use Rattle.plans.proofs.Entries.{rows_more, rows_long}

-- one row more in front
pub fronts_more : (d : ℕ) (x : List ℕ) (ys : List (List ℕ)) → Rising (x ∷ ys)
    → length (fronts d (x ∷ ys)) ≡ cond {A = ℕ} (next_same d x ys) 0 1 + length (fronts d ys)
fronts_more d x ys r =
    ap (λ b. length (cond b (fronts d ys) (take d x ∷ fronts d ys))) (seen_next d x ys r) ∙ go (next_same d x ys)
  where
    go : (b : Bool) → length (cond b (fronts d ys) (take d x ∷ fronts d ys)) ≡ cond {A = ℕ} b 0 1 + length (fronts d ys)
    go true = omega arith
    go false = omega arith

-- a row within the extents has a coordinate for each, below it
pub row_long : (es cs : List ℕ) → outside es cs ≡ false → length cs ≡ length es
row_long [] [] h = refl
row_long [] (c ∷ cs) h = absurd (true≢false h)
row_long (e ∷ es) [] h = absurd (true≢false h)
row_long (e ∷ es) (c ∷ cs) h = ap suc (row_long es cs (or_parts (leb e c) (outside es cs) h).1)

pub row_within : (es cs : List ℕ) (i : ℕ) → outside es cs ≡ false → i < length es → get_or cs i 0 < get_or es i 0
row_within [] cs i h l = absurd (omega arith)
row_within (e ∷ es) [] i h l = absurd (true≢false h)
row_within (e ∷ es) (c ∷ cs) zero h l = leb-false e c (or_parts (leb e c) (outside es cs) h).0
row_within (e ∷ es) (c ∷ cs) (suc i) h l = row_within es cs i (or_parts (leb e c) (outside es cs) h).1 (omega arith)

-- of two rows in order with one front: the next coordinates are the same, or in order
pub next_order : (i : ℕ) (x y : List ℕ) → before x y ≡ true → i < length x → i < length y → take i x ≡ take i y
    → ((take (suc i) x ≡ take (suc i) y) × (get_or x i 0 ≡ get_or y i 0)) ⊎ (get_or x i 0 < get_or y i 0)
next_order i [] y h l m e = absurd (omega arith)
next_order i (a ∷ x) [] h l m e = absurd (omega arith)
next_order zero (a ∷ x) (b ∷ y) h l m e = go (ltb a b) (eqb a b) refl refl h
  where
    go : (l e : Bool) → ltb a b ≡ l → eqb a b ≡ e → cond l true (cond e (before x y) false) ≡ true → ((a ∷ [] ≡ b ∷ []) × (a ≡ b)) ⊎ (a < b)
    go true e p q h1 = inr (ltb-true a b p)
    go false true p q h1 = inl (ap (λ c. c ∷ []) (eqb-true a b q), eqb-true a b q)
    go false false p q h1 = absurd (false≢true h1)
next_order (suc i) (a ∷ x) (b ∷ y) h l m e =
    let heads : a ≡ b = cc in
    let tails : take i x ≡ take i y = cc in
    ⊎_elim
    (λ s. inl (ap₂ (λ c (l : List ℕ). c ∷ l) heads s.0, s.1))
    inr
    (next_order i x y (go (ltb a b) (eqb a b) refl refl heads h) (omega arith) (omega arith) tails)
  where
    go : (l e : Bool) → ltb a b ≡ l → eqb a b ≡ e → a ≡ b → cond l true (cond e (before x y) false) ≡ true → before x y ≡ true
    go true e p q s h1 = let lt = ltb-true a b p in absurd (omega arith)
    go false true p q s h1 = h1
    go false false p q s h1 = absurd (false≢true h1)

take_less : (i : ℕ) (x y : List ℕ) → take (suc i) x ≡ take (suc i) y → take i x ≡ take i y
take_less i x y e = sym (take-take i (suc i) x (omega arith)) ∙ ap (take i) e ∙ take-take i (suc i) y (omega arith)

-- Fronts of a length are at most the extent times as many as those one shorter.
module _ (i e : ℕ) where
  abbrev Fits : List ℕ → Type 0
  Fits cs = (i < length cs) × (get_or cs i 0 < e)

  pub fronts_bound : (x : List ℕ) (ys : List (List ℕ)) → Rising (x ∷ ys) → AllByRecursion Fits (x ∷ ys)
      → length (fronts (suc i) (x ∷ ys)) + get_or x i 0 ≤ length (fronts i (x ∷ ys)) * e
  fronts_bound x [] r f = omega (arith, f.0.1)
  fronts_bound x (y ∷ ys) r f = go (same (take (suc i) x) (take (suc i) y)) (same (take i x) (take i y)) refl refl (fronts_bound y ys r.1 f.1)
    where
      more : (d : ℕ) (b : Bool) → same (take d x) (take d y) ≡ b → length (fronts d (x ∷ y ∷ ys)) ≡ cond {A = ℕ} b 0 1 + length (fronts d (y ∷ ys))
      more d b s = fronts_more d x (y ∷ ys) r ∙ ap (λ b. cond {A = ℕ} b 0 1 + length (fronts d (y ∷ ys))) s

      next : take i x ≡ take i y → ((take (suc i) x ≡ take (suc i) y) × (get_or x i 0 ≡ get_or y i 0)) ⊎ (get_or x i 0 < get_or y i 0)
      next = next_order i x y r.0.0 f.0.0 f.1.0.0

      go : (s t : Bool) → same (take (suc i) x) (take (suc i) y) ≡ s → same (take i x) (take i y) ≡ t
          → length (fronts (suc i) (y ∷ ys)) + get_or y i 0 ≤ length (fronts i (y ∷ ys)) * e
          → length (fronts (suc i) (x ∷ y ∷ ys)) + get_or x i 0 ≤ length (fronts i (x ∷ y ∷ ys)) * e
      go true true p q again =
          let n = more (suc i) true p in
          let m = ap (λ z. z * e) (more i true q ∙ (let z : 0 + length (fronts i (y ∷ ys)) ≡ length (fronts i (y ∷ ys)) = omega arith in z)) in
          ⊎_elim
          (λ s. omega (arith, again, s.1))
          (λ l. omega (arith, again))
          (next (same_is (take i x) (take i y) q))
      go true false p q again =
          absurd (false≢true (sym q ∙ ap (same (take i x)) (sym (take_less i x y (same_is (take (suc i) x) (take (suc i) y) p))) ∙ same_self (take i x)))
      go false true p q again =
          let n = more (suc i) false p in
          let m = ap (λ z. z * e) (more i true q ∙ (let z : 0 + length (fronts i (y ∷ ys)) ≡ length (fronts i (y ∷ ys)) = omega arith in z)) in
          ⊎_elim
          (λ s. absurd (false≢true (sym p ∙ ap (same (take (suc i) x)) (sym s.0) ∙ same_self (take (suc i) x))))
          (λ l. omega (arith, again))
          (next (same_is (take i x) (take i y) q))
      go false false p q again =
          let n = more (suc i) false p in
          let m = ap (λ z. z * e) (more i false q) in
          omega (arith, again, add-mul 1 (length (fronts i (y ∷ ys))) e, f.0.1)

module _ (es : List ℕ) (css : List (List ℕ)) (o : Ordered es css) where
  pub fronts_ample : (i : ℕ) → i < length es → length (fronts (suc i) css) ≤ length (fronts i css) * get_or es i 0
  fronts_ample i h = go css o.within o.rising
    where
      go : (xs : List (List ℕ)) → AllByRecursion (λ cs. outside es cs ≡ false) xs → Rising xs → length (fronts (suc i) xs) ≤ length (fronts i xs) * get_or es i 0
      go [] w r = omega arith
      go (x ∷ xs) w r =
          let b = fronts_bound i (get_or es i 0) x xs r
          (All-weaker (λ cs. outside es cs ≡ false) (λ cs. (i < length cs) × (get_or cs i 0 < get_or es i 0))
          (λ cs q. (omega (arith, row_long es cs q), row_within es cs i q h)) (x ∷ xs) w) in
          omega arith

  -- at full depth no two rows have one front
  pub fronts_all : length (fronts (length es) css) ≡ length css
  fronts_all = go css o.within o.rising
    where
      whole : (x : List ℕ) → outside es x ≡ false → take (length es) x ≡ x
      whole x q = take_all (length es) x (omega (arith, row_long es x q))

      apart : (x : List ℕ) (xs : List (List ℕ)) → AllByRecursion (λ cs. outside es cs ≡ false) (x ∷ xs) → Rising (x ∷ xs) → next_same (length es) x xs ≡ false
      apart x [] w r = refl
      apart x (y ∷ ys) w r = ap₂ same (whole x w.0) (whole y w.1.0) ∙ before_differs x y r.0.0

      go : (xs : List (List ℕ)) → AllByRecursion (λ cs. outside es cs ≡ false) xs → Rising xs → length (fronts (length es) xs) ≡ length xs
      go [] w r = refl
      go (x ∷ xs) w r =
          fronts_more (length es) x xs r ∙ ap (λ b. cond {A = ℕ} b 0 1 + length (fronts (length es) xs)) (apart x xs w r)
          ∙ (let ih = go xs w.1 r.1 in omega (arith, ih))

  pub fronts_first : length (fronts 0 css) ≤ 1
  fronts_first = go css o.rising
    where
      go : (xs : List (List ℕ)) → Rising xs → length (fronts 0 xs) ≤ 1
      go [] r = omega arith
      go (x ∷ []) r = omega arith
      go (x ∷ y ∷ ys) r = omega (arith, fronts_more 0 x (y ∷ ys) r, go (y ∷ ys) r.1)

pub rising_drop : (k : ℕ) (css : List (List ℕ)) → Rising css → Rising (drop k css)
rising_drop zero css r = r
rising_drop (suc k) [] r = tt
rising_drop (suc k) (x ∷ css) r = rising_drop k css r.1

-- the fronts from row k on
module _ (d r n : ℕ) (cs : List ℕ) (rising : Rising (rows_of r n cs)) where
  fronts_from : (k : ℕ) → k < n
      → length (fronts d (drop k (rows_of r n cs)))
      ≡ cond {A = ℕ} (next_same d (nth_row r cs k) (drop (k + 1) (rows_of r n cs))) 0 1 + length (fronts d (drop (k + 1) (rows_of r n cs)))
  fronts_from k h =
      ap (λ css. length (fronts d css)) (rows_more r n cs k h)
      ∙ fronts_more d (nth_row r cs k) (drop (k + 1) (rows_of r n cs)) (subst Rising (rows_more r n cs k h) (rising_drop k (rows_of r n cs) rising))

  fronts_none : (k : ℕ) → n ≤ k → length (fronts d (drop k (rows_of r n cs))) ≡ 0
  fronts_none k h = ap (λ css. length (fronts d css)) (drop_all k (rows_of r n cs) (omega (arith, rows_long r n cs)))

  -- a front ends at the last row that has it
  abbrev ends : ℕ → Bool
  ends k = not (next_same d (nth_row r cs k) (drop (k + 1) (rows_of r n cs)))

  pub fronts_counted : (m k : ℕ) → k + m ≡ n → length (filter ends (range_with_len k m)) ≡ length (fronts d (drop k (rows_of r n cs)))
  fronts_counted zero k h = sym (fronts_none k (omega arith))
  fronts_counted (suc m) k h =
      go (next_same d (nth_row r cs k) (drop (k + 1) (rows_of r n cs))) (fronts_counted m (k + 1) (omega arith)) ∙ sym (fronts_from k (omega arith))
    where
      go : (b : Bool) → length (filter ends (range_with_len (k + 1) m)) ≡ length (fronts d (drop (k + 1) (rows_of r n cs)))
          → length (cond (not b) (k ∷ filter ends (range_with_len (k + 1) m)) (filter ends (range_with_len (k + 1) m)))
          ≡ cond {A = ℕ} b 0 1 + length (fronts d (drop (k + 1) (rows_of r n cs)))
      go true ih = omega arith
      go false ih = omega arith

module _ (d r n : ℕ) (cs x : List ℕ) (k : ℕ) where
  pub next_none : k + 1 ≡ n → next_same d x (drop (k + 1) (rows_of r n cs)) ≡ false
  next_none e = ap (next_same d x) (drop_all (k + 1) (rows_of r n cs) (omega (arith, rows_long r n cs)))

  pub next_row : k + 1 < n → next_same d x (drop (k + 1) (rows_of r n cs)) ≡ same (take d x) (take d (nth_row r cs (k + 1)))
  next_row h = ap (next_same d x) (rows_more r n cs (k + 1) h)
