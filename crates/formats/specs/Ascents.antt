-- Ascending lists by their places, and the steps of a number that rises from 0.
use Rattle.std.specs.Prelude.{◌≡◌, ℕ, zero, suc, ◌+◌, ◌<◌, ◌≤◌, List, [], ◌∷◌, length, slice_index}
use Rattle.std.proofs.Common.{⊎_elim, arith, add-one}
use Rattle.std.proofs.ByRecursion.{All-get_or, All-from_get_or}
use Rattle.std.proofs.lemmas.Bool.{cases_lt}
use Rattle.model.specs.Fibers.{Ascends}

pub ascends_from : (xs : List ℕ) → ((j k : ℕ) → j < k → k < length xs → slice_index xs j < slice_index xs k) → Ascends xs
ascends_from [] h = tt
ascends_from (x ∷ xs) h =
    (All-from_get_or (λ y. x < y) xs 0 (λ i l. h 0 (suc i) (omega arith) (omega arith)), ascends_from xs (λ j k a b. h (suc j) (suc k) (omega arith) (omega arith)))

pub ascends_getd : (xs : List ℕ) → Ascends xs → (j k : ℕ) → j < k → k < length xs → slice_index xs j < slice_index xs k
ascends_getd [] a j k l i = absurd (omega arith)
ascends_getd (x ∷ xs) a j zero l i = absurd (omega arith)
ascends_getd (x ∷ xs) a zero (suc k) l i = All-get_or (λ y. x < y) xs k 0 (omega arith) a.0
ascends_getd (x ∷ xs) a (suc j) (suc k) l i = ascends_getd xs a.1 j k (omega arith) (omega arith)

-- the step that passes j
pub passes : (g : ℕ → ℕ) → g 0 ≡ 0 → (j m : ℕ) → j < g m → (p : ℕ) × (p < m) × (g p ≤ j) × (j < g (p + 1))
passes g first j zero h = absurd (omega arith)
passes g first j (suc m) h =
    ⊎_elim
    (λ l. let r = passes g first j m l in (r.0, omega (arith, r.1), r.2, r.3))
    (λ le. (m, omega arith, le, rw add-one h))
    (cases_lt j (g m))
