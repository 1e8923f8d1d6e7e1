-- Tensors: what is stored, its dense value, and what it is for levels and value positions to hold it. Assumes nothing.
use Rattle.std.specs.Prelude.{◌≡◌, ℕ, Bool, true, false, cond, ◌||◌, List, [], ◌∷◌, length, Some, None, Option, ◌==◌, slice_index_or}
use Rattle.model.specs.Fibers.{Level, Lawful, child, fiber_at}

-- whether a list has a number; whether two lists are the same
abbrev pub has : List ℕ → ℕ → Bool
has [] x = false
has (y ∷ ys) x = y == x || has ys x

abbrev pub same : List ℕ → List ℕ → Bool
same [] [] = true
same [] (y ∷ ys) = false
same (x ∷ xs) [] = false
same (x ∷ xs) (y ∷ ys) = cond (x == y) (same xs ys) false

-- A tensor as it is given: the extent of each argument, and the entries, each with its coordinates and its value.
pub record Tensor (V : Type 0) : Type 0 where
  pub extents : List ℕ
  pub entries : List (List ℕ × V)

-- the value of the entry at coordinates, or zero where there is none
abbrev pub entry_at : {V : Type 0} → V → List (List ℕ × V) → List ℕ → V
entry_at zero [] cs = zero
entry_at zero (e ∷ es) cs = cond (same e.0 cs) e.1 (entry_at zero es cs)

abbrev pub dense_value : {V : Type 0} → V → Tensor V → List ℕ → V
dense_value zero t cs = entry_at zero t.entries cs

-- What a slot holds: levels, the outermost first, and value positions.
pub record Storage (V : Type 0) : Type 0 where
  pub levels : List Level
  pub values : List V

-- the reference reached from r along coordinates, a level for each
abbrev pub reached : List Level → Option ℕ → List ℕ → Option ℕ
reached ls r [] = r
reached [] r (c ∷ cs) = None
reached (l ∷ ls) r (c ∷ cs) = reached ls (child (fiber_at l r) c) cs

abbrev pub value_at : {V : Type 0} → V → List V → Option ℕ → V
value_at zero vs (Some p) = slice_index_or vs p zero
value_at zero vs None = zero

-- the value that is held at coordinates: zero where a level does not hold one of them
abbrev pub held_value : {V : Type 0} → V → Storage V → List ℕ → V
held_value zero s cs = value_at zero s.values (reached s.levels (Some 0) cs)

-- Lawful levels of these extents, one below the other: the first has f fibers, the children of each are the fibers of the
-- next, and those of the last, or the fibers where there is no level, are n.
abbrev pub Stacked : List ℕ → ℕ → List Level → ℕ → Type 0
Stacked [] f [] n = f ≡ n
Stacked [] f (l ∷ ls) n = ⊥
Stacked (e ∷ es) f [] n = ⊥
Stacked (e ∷ es) f (l ∷ ls) n = (m : ℕ) × Lawful e f m l × Stacked es m ls n

-- The levels and value positions hold the tensor. Levels may hold padding, coordinates with no entry below them: what is held there
-- is zero.
pub record Holds {V : Type 0} (zero : V) (t : Tensor V) (s : Storage V) : Type 0 where
  pub stacked : Stacked t.extents 1 s.levels (length s.values)
  pub dense : (cs : List ℕ) → length cs ≡ length t.extents → held_value zero s cs ≡ dense_value zero t cs
