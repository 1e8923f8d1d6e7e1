-- How a tree stands in a text: the variables of each access, at their places. Assumes nothing.
use Rattle.std.specs.Prelude.{◌≡◌, ℕ, ◌+◌, ◌*◌, ◌≤◌, List, length}
use Rattle.model.specs.Grammar.{Tree, access, group, times, plus, text, Vars}
use Rattle.reader.specs.Lists.{listed}

-- the tree of a line is written in s from `at` on
abbrev pub Tied : List ℕ → ℕ → Tree → Type 0
Tied s at (access l vs) = (listed s (at + 2) (length vs) ≡ vs) × (at + 2 + 2 * length vs ≤ length s + 1) × Vars vs
Tied s at (group t) = Tied s (at + 1) t
Tied s at (times a b) = Tied s at a × Tied s (at + length (text a) + 1) b
Tied s at (plus a b) = Tied s at a × Tied s (at + length (text a) + 1) b
