-- Lists of variables as they stand in a text. Assumes nothing.
use Rattle.std.specs.Prelude.{ℕ, zero, suc, ◌+◌, ◌-◌, ◌/◌, min, List, [], ◌∷◌, length, slice_index}
use Rattle.model.specs.Reading.{placed_vars}
use Rattle.reader.specs.declared.vars.VarList.{VarList}

-- n bytes of s, at every other place from p on
abbrev pub listed : List ℕ → ℕ → ℕ → List ℕ
listed s p zero = []
listed s p (suc n) = slice_index s p ∷ listed s (p + 2) n

-- how many variables may stand in s from p on, with a comma between two
abbrev pub space : List ℕ → ℕ → ℕ
space s p = (length s + 1 - p) / 2

-- the variables of a list, as many as the text has, and with their places
abbrev pub vars_of : List ℕ → VarList → List ℕ
vars_of s v = listed s v.place (min v.count (space s v.place))

abbrev pub placed_of : List ℕ → VarList → List (ℕ × ℕ)
placed_of s v = placed_vars v.place (vars_of s v)
