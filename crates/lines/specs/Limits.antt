-- The limits of a line, as they are tried on its text, its table and its nodes. Assumes nothing.
use Rattle.std.specs.Prelude.{◌≡◌, ℕ, ◌+◌, cond, List, [], ◌∷◌, map, Option, nat_lt}
use Rattle.reader.specs.declared.node.Node.{Node}
use Rattle.model.specs.Grammar.{is_var, Tree}
use Rattle.model.specs.Conditions.{Check, first_fault, beyond, places, openings}
use Rattle.reader.specs.Nodes.{Holds}
use Rattle.reader.specs.declared.vars.VarList.{VarList}
use Rattle.reader.specs.Lists.{placed_of}

-- the variables of a text that begins at a place, each with its place
abbrev pub letters : ℕ → List ℕ → List (ℕ × ℕ)
letters p [] = []
letters p (b ∷ bs) = cond (is_var b) ((p, b) ∷ letters (p + 1) bs) (letters (p + 1) bs)

-- the fourth variable of a list and those behind it
abbrev pub crowded : List ℕ → VarList → List Check
crowded s v = beyond 3 (places (placed_of s v))

abbrev pub too_deep : (ℕ × ℕ) → Check
too_deep o = (o.0, nat_lt 4 o.1)

abbrev pub Deep : List Node → ℕ → ℕ → Option ℕ → Type 0
Deep ns i d r = (t : Tree) (at : ℕ) → Holds t at ns i → r ≡ first_fault (map too_deep (openings at d t))
