-- Search by halving in a fiber that ascends.
use Rattle.std.proofs.Common.{◌≡◌, ℕ, zero, suc, ◌+◌, ◌<◌, ◌≤◌, [], ◌∷◌, length, get_or, Some, None, sym, refl, ap, ◌∙◌, ⊎_elim, arith}
use Rattle.std.specs.List.{slice_get}
use Rattle.std.proofs.lemmas.List.{get_or-map, length-map}
use Rattle.std.proofs.lemmas.Option.{slice_get-get_or}
use Rattle.std.proofs.lemmas.Bool.{cases_lt, eq-eqb, ne_eqb}
use Rattle.model.specs.Fibers.{Fiber, Ascends, coords, child}
use Rattle.formats.specs.Ascents.{ascends_getd}

abbrev pub coord_at : Fiber → ℕ → ℕ
coord_at xs k = (get_or xs k (0, 0)).0

-- what is left is from low on and below high: what comes before is less than c, what comes after is greater
pub record Left (xs : Fiber) (c low high : ℕ) : Type 0 where
  pub less : (k : ℕ) → k < low → k < length xs → coord_at xs k < c
  pub greater : (k : ℕ) → high ≤ k → k < length xs → c < coord_at xs k

pub ascends_coord : (xs : Fiber) → Ascends (coords xs) → (j k : ℕ) → j < k → k < length xs → coord_at xs j < coord_at xs k
ascends_coord xs a j k h i =
    let n = length-map xs (λ x. x.0) in
    omega (arith, ascends_getd (coords xs) a j k h (omega arith), get_or-map (λ x. x.0) xs j (0, 0) 0 (omega arith), get_or-map (λ x. x.0) xs k (0, 0) 0 i)

child_here : (x : ℕ × ℕ) (xs : Fiber) (c : ℕ) → x.0 ≡ c → child (x ∷ xs) c ≡ Some x.1
child_here x xs c e = rw (eq-eqb x.0 c e)

child_later : (x : ℕ × ℕ) (xs : Fiber) (c : ℕ) → (x.0 ≡ c → ⊥) → child (x ∷ xs) c ≡ child xs c
child_later x xs c e = rw (ne_eqb x.0 c e)

pub child_hit : (xs : Fiber) (c k : ℕ) → Ascends (coords xs) → k < length xs → coord_at xs k ≡ c → child xs c ≡ Some (get_or xs k (0, 0)).1
child_hit [] c k a h e = absurd (omega arith)
child_hit (x ∷ xs) c zero a h e = child_here x xs c e
child_hit (x ∷ xs) c (suc k) a h e =
    child_later x xs c (λ s. omega (arith, ascends_coord (x ∷ xs) a 0 (suc k) (omega arith) h)) ∙ child_hit xs c k a.1 (omega arith) e

pub child_miss : (xs : Fiber) (c : ℕ) → ((k : ℕ) → k < length xs → coord_at xs k ≡ c → ⊥) → child xs c ≡ None
child_miss [] c h = refl
child_miss (x ∷ xs) c h = child_later x xs c (h 0 (omega arith)) ∙ child_miss xs c (λ k i. h (suc k) (omega arith))

-- nothing is left at last
pub left_none : (xs : Fiber) (c low high : ℕ) → high ≤ low → Left xs c low high → child xs c ≡ None
left_none xs c low high h l =
    child_miss xs c (λ k i e. ⊎_elim (λ lt. omega (arith, l.less k lt i)) (λ ge. omega (arith, l.greater k (omega arith) i)) (cases_lt k low))

-- a turn reads the item x at m: it is the one, or what is left lies above it, or below
module _ (xs : Fiber) (c low high m : ℕ) (x : ℕ × ℕ) (here : m < length xs) (read : x ≡ get_or xs m (0, 0)) where
  pub read_held : x.0 ≡ c → Some (c, x.1) ≡ slice_get xs m
  read_held e = ap (λ w. Some (w, x.1)) (sym e) ∙ ap Some read ∙ sym (slice_get-get_or xs m (0, 0) here)

  module _ (a : Ascends (coords xs)) where
    pub read_hit : x.0 ≡ c → Some x.1 ≡ child xs c
    read_hit e = ap (λ y. Some y.1) read ∙ sym (child_hit xs c m a here (sym (ap (λ y. y.0) read) ∙ e))

    pub left_above : x.0 < c → Left xs c low high → Left xs c (m + 1) high
    left_above lt l =
        let at = ap (λ y. y.0) read in
        record {
          less = λ k i j. ⊎_elim (λ b. omega (arith, ascends_coord xs a k m b here)) (λ ge. let e : k ≡ m = omega arith in omega (arith, ap (coord_at xs) e)) (cases_lt k m);
          greater = l.greater;
        }

    pub left_below : c < x.0 → Left xs c low high → Left xs c low m
    left_below lt l =
        let at = ap (λ y. y.0) read in
        record {
          less = l.less;
          greater = λ k i j. ⊎_elim (λ b. omega (arith, ascends_coord xs a m k b j)) (λ ge. let e : k ≡ m = omega arith in omega (arith, ap (coord_at xs) e)) (cases_lt m k);
        }
