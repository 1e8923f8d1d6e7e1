-- Sets of variables: which variables one has, and what it means to add some. Assumes nothing.
use Rattle.std.specs.Prelude.{◌≡◌, ℕ, ◌-◌, Bool, true, false, ◌||◌, List, ◌==◌, slice_index_or}
use Rattle.model.specs.Tensors.{has}
use Rattle.model.specs.Grammar.{is_var}
use Rattle.lines.specs.declared.sets.VarSet.{VarSet}

abbrev pub in_set : VarSet → ℕ → Bool
in_set m v = slice_index_or m.present (v - 97) false

abbrev pub NoVar : VarSet → Type 0
NoVar m = (v : ℕ) → is_var v ≡ true → in_set m v ≡ false

abbrev pub With : VarSet → ℕ → VarSet → Type 0
With old x new = (v : ℕ) → is_var v ≡ true → in_set new v ≡ (x == v || in_set old v)

abbrev pub WithAll : VarSet → List ℕ → VarSet → Type 0
WithAll old xs new = (v : ℕ) → is_var v ≡ true → in_set new v ≡ (has xs v || in_set old v)

-- the one is within the other
abbrev pub Within : VarSet → VarSet → Type 0
Within m n = (v : ℕ) → is_var v ≡ true → in_set m v ≡ true → in_set n v ≡ true

-- the set has the variables of a list
abbrev pub SetOf : List ℕ → VarSet → Type 0
SetOf xs m = (v : ℕ) → is_var v ≡ true → in_set m v ≡ has xs v
