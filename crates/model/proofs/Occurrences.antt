-- How often numbers stand in a list; where each below n stands once, and no other, the list has the length n. Assumes nothing.
use Rattle.std.proofs.Common.{◌≡◌, ℕ, zero, suc, ◌+◌, ◌<◌, cond, eqb, ◌⊎◌, List, [], ◌∷◌, ◌++◌, map, length, get_or, sym, refl, ap, ◌∙◌, inl, inr, arith}
use Rattle.std.specs.List.{AllByRecursion}
use Rattle.std.proofs.ByRecursion.{All-map, All-from_get_or}
use Rattle.std.proofs.lemmas.Bool.{cases_eq, eq-eqb, ne_eqb}
use Rattle.model.specs.Fibers.{Fiber}
use Rattle.model.specs.Sums.{often}

-- one occurrence, or none
pub one_here : (j x : ℕ) → x ≡ j → ◌≡◌ {A = ℕ} (cond (eqb j x) 1 0) 1
one_here j x e = ap (λ b. cond b 1 0) (eq-eqb j x (sym e))

pub none_here : (j x : ℕ) → (x ≡ j → ⊥) → ◌≡◌ {A = ℕ} (cond (eqb j x) 1 0) 0
none_here j x e = ap (λ b. cond b 1 0) (ne_eqb j x (λ h. e (sym h)))

pub often_append : (j : ℕ) (xs ys : List ℕ) → often eqb j (xs ++ ys) ≡ often eqb j xs + often eqb j ys
often_append j [] ys = omega arith
often_append j (x ∷ xs) ys = let h = often_append j xs ys in omega arith

pub often_none : (j : ℕ) (xs : List ℕ) → AllByRecursion (λ x. x ≡ j → ⊥) xs → often eqb j xs ≡ 0
often_none j [] h = refl
often_none j (x ∷ xs) h = let here = none_here j x h.0 in let rest = often_none j xs h.1 in omega arith

-- the children of a fiber
abbrev pub children : Fiber → List ℕ
children f = map (λ x. x.1) f

pub never_child : (j : ℕ) (f : Fiber) → ((m : ℕ) → m < length f → (get_or f m (0, 0)).1 ≡ j → ⊥) → often eqb j (children f) ≡ 0
never_child j f h = often_none j (children f) (All-map (λ x. x ≡ j → ⊥) (λ (x : ℕ × ℕ). x.1) f (All-from_get_or (λ x. x.1 ≡ j → ⊥) f (0, 0) h))

pub once_child :
    (j : ℕ) (f : Fiber) (k : ℕ) → k < length f → (get_or f k (0, 0)).1 ≡ j → ((m : ℕ) → m < length f → (get_or f m (0, 0)).1 ≡ j → m ≡ k)
    → often eqb j (children f) ≡ 1
once_child j [] k below is only = absurd (omega arith)
once_child j (x ∷ f) zero below is only =
    let here = one_here j x.1 is in
    let rest = never_child j f (λ m h e. let z : suc m ≡ 0 = only (suc m) (omega arith) e in omega arith) in
    omega arith
once_child j (x ∷ f) (suc k) below is only =
    let here = none_here j x.1 (λ e. let z : 0 ≡ suc k = only 0 (omega arith) e in omega arith) in
    let rest = once_child j f k (omega arith) is (λ m h e. let z : suc m ≡ suc k = only (suc m) (omega arith) e in omega arith) in
    omega arith

-- the sum of a function over the numbers below n
abbrev total : (ℕ → ℕ) → ℕ → ℕ
total g zero = 0
total g (suc n) = g n + total g n

total_sum : (g h : ℕ → ℕ) (n : ℕ) → total (λ j. g j + h j) n ≡ total g n + total h n
total_sum g h zero = omega arith
total_sum g h (suc n) = let e = total_sum g h n in omega arith

total_none : (g : ℕ → ℕ) (n : ℕ) → ((j : ℕ) → j < n → g j ≡ 0) → total g n ≡ 0
total_none g zero h = refl
total_none g (suc n) h = let here = h n (omega arith) in let rest = total_none g n (λ j k. h j (omega arith)) in omega arith

total_ones : (g : ℕ → ℕ) (n : ℕ) → ((j : ℕ) → j < n → g j ≡ 1) → total g n ≡ n
total_ones g zero h = refl
total_ones g (suc n) h = let here = h n (omega arith) in let rest = total_ones g n (λ j k. h j (omega arith)) in omega arith

total_at : (x n : ℕ) → x < n → total (λ j. cond (eqb j x) 1 0) n ≡ 1
total_at x zero h = absurd (omega arith)
total_at x (suc n) h = go (cases_eq x n) (total_at x n)
  where
    go : (x ≡ n) ⊎ (x ≡ n → ⊥) → (x < n → total (λ j. cond (eqb j x) 1 0) n ≡ 1) → cond (eqb n x) 1 0 + total (λ j. cond (eqb j x) 1 0) n ≡ 1
    go (inl e) later =
        let here = one_here n x e in
        let rest = total_none (λ j. cond (eqb j x) 1 0) n (λ j k. none_here j x (λ d. omega arith)) in
        omega arith
    go (inr e) later = let here = none_here n x e in let rest = later (omega arith) in omega arith

total_often : (n : ℕ) (xs : List ℕ) → AllByRecursion (λ x. x < n) xs → total (λ j. often eqb j xs) n ≡ length xs
total_often n [] h = total_none (λ j. 0) n (λ j k. refl)
total_often n (x ∷ xs) h =
    let parts = total_sum (λ j. cond (eqb j x) 1 0) (λ j. often eqb j xs) n in
    let here = total_at x n h.0 in
    let rest = total_often n xs h.1 in
    omega arith

pub length_once : (n : ℕ) (xs : List ℕ) → AllByRecursion (λ x. x < n) xs → ((j : ℕ) → j < n → often eqb j xs ≡ 1) → length xs ≡ n
length_once n xs below once = sym (total_often n xs below) ∙ total_ones (λ j. often eqb j xs) n once
