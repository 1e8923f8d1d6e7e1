-- What is asked of a table: the sum over its docks, and what that sum says of each kind. Assumes nothing.
use Rattle.std.specs.Prelude.{◌≡◌, ℕ, ◌+◌, ◌<◌, ◌≤◌, Bool, cond, not, ◌&&◌, ◌⊎◌, List, map, length, Some, None, Option, ◌==◌, slice_index}
use Rattle.model.specs.Semirings.{Algebra, dot}
use Rattle.semiring.specs.Kinds.{count}
use Rattle.semiring.specs.declared.count.Count.{Count}
use Rattle.docks.specs.Tables.{Entry}

-- A leg runs unless its time is none.
abbrev pub runs : ℕ → Bool
runs t = not (t == 4294967295)

-- as a count, a leg that runs is one
abbrev pub counts_once : ℕ → Count
counts_once t = count (cond (runs t) 1 0)

-- a row of legs, one of each entry, each worth a value of a kind
abbrev pub row : {V : Type 0} → (ℕ → V) → (Entry → ℕ) → List Entry → List V
row worth leg es = map (λ e. worth (leg e)) es

-- the sum over all docks of the product of their two legs
abbrev pub over_docks : {V : Type 0} → Algebra V → (ℕ → V) → List Entry → V
over_docks A worth es = dot A (row worth (λ e. e.leg_in) es) (row worth (λ e. e.leg_out) es)

-- A dock connects where both its legs run.
abbrev pub connects : Entry → Bool
connects e = runs e.leg_in && runs e.leg_out

-- what a way over each dock takes
abbrev pub totals : List Entry → List ℕ
totals es = map (λ e. e.leg_in + e.leg_out) es

-- t is the least of some totals, or none where none of them is less than that
abbrev pub Least : List ℕ → ℕ → Type 0
Least ts t = ((k : ℕ) → k < length ts → t ≤ slice_index ts k) × ((t ≡ 4294967295) ⊎ ((k : ℕ) × (k < length ts) × (t ≡ slice_index ts k)))

-- the first place of the least total that is a time, or none where no total is one
abbrev pub FirstLeast : List ℕ → Option ℕ → Type 0
FirstLeast ts None = (k : ℕ) → k < length ts → 4294967295 ≤ slice_index ts k
FirstLeast ts (Some i) =
    (i < length ts) × (slice_index ts i < 4294967295) × ((k : ℕ) → k < length ts → slice_index ts i ≤ slice_index ts k) × ((k : ℕ) → k < i → slice_index ts i < slice_index ts k)
