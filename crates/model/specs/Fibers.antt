-- Levels of a tensor by their meaning, the list of their fibers. Assumes nothing.
use Rattle.std.specs.Prelude.{◌≡◌, ℕ, ◌<◌, cond, List, [], ◌∷◌, map, length, get_or, Some, None, Option, ◌==◌, slice_index_or}
use Rattle.std.specs.List.{slice_get, AllByRecursion}
use Rattle.std.specs.Option.{option_map}

-- A fiber: its coordinates, ascending, each with the number of its child. A level: its fibers, by number.
abbrev pub Fiber : Type 0
Fiber = List (ℕ × ℕ)

abbrev pub Level : Type 0
Level = List Fiber

abbrev pub coords : Fiber → List ℕ
coords f = map (λ x. x.0) f

abbrev pub fiber : Level → ℕ → Fiber
fiber l p = slice_index_or l p []

abbrev pub coord : Level → ℕ → ℕ → ℕ
coord l p k = (get_or (fiber l p) k (0, 0)).0

abbrev pub child_number : Level → ℕ → ℕ → ℕ
child_number l p k = (get_or (fiber l p) k (0, 0)).1

-- What FIBERS, COUNT of fiber p, and AT of p and k answer.
abbrev pub fibers_of : Level → ℕ
fibers_of l = length l

abbrev pub count_of : Level → ℕ → Option ℕ
count_of l p = option_map length (slice_get l p)

abbrev pub at_of : Level → ℕ → ℕ → Option (ℕ × ℕ)
at_of l p k = slice_get (fiber l p) k

-- strictly ascending
abbrev pub Ascends : List ℕ → Type 0
Ascends [] = Unit {0}
Ascends (x ∷ xs) = AllByRecursion (λ y. x < y) xs × Ascends xs

-- A level of f fibers whose coordinates ascend below the extent e, and whose children are 0 to n - 1, each used once.
pub record Lawful (e f n : ℕ) (l : Level) : Type 0 where
  pub number : length l ≡ f
  pub ascends : (p : ℕ) → p < f → Ascends (coords (fiber l p))
  pub within : (p k : ℕ) → p < f → k < length (fiber l p) → coord l p k < e
  pub below : (p k : ℕ) → p < f → k < length (fiber l p) → child_number l p k < n
  pub used : (j : ℕ) → j < n → (p : ℕ) × (k : ℕ) × (p < f) × (k < length (fiber l p)) × (child_number l p k ≡ j)
  pub once : (p k q m : ℕ) → p < f → k < length (fiber l p) → q < f → m < length (fiber l q)
      → child_number l p k ≡ child_number l q m → (p ≡ q) × (k ≡ m)

-- the child at a coordinate, if the fiber holds it
abbrev pub child : Fiber → ℕ → Option ℕ
child [] c = None
child (x ∷ xs) c = cond (x.0 == c) (Some x.1) (child xs c)

-- what a reference, or none, leads to
abbrev pub fiber_at : Level → Option ℕ → Fiber
fiber_at l (Some p) = fiber l p
fiber_at l None = []
