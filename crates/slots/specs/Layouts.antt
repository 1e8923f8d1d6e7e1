-- Where tensors lie in the areas: the slots' parts in slot order, and in a part the levels one after another by NEED.
use Rattle.std.specs.Prelude.{ℕ, ◌*◌, List, [], ◌∷◌, map, take, drop, sum}
use Rattle.model.specs.Fibers.{Level}
use Rattle.model.specs.Formats.{LevelSize}
use Rattle.model.specs.Stores.{FormatRules}
use Rattle.model.specs.Tensors.{Storage}

-- a slot's part of an area in which each slot has `size` places
abbrev pub part : {X : Type 0} → ℕ → ℕ → List X → List X
part slot size xs = take size (drop (slot * size) xs)

module _ (rules : FormatRules) where
  -- the words that levels need together
  abbrev pub needed : List (ℕ × LevelSize) → ℕ
  needed ls = sum (map (λ l. rules.need l.0 l.1) ls)

  module _ (meaning : ℕ → LevelSize → List ℕ → Level) where
    -- the levels that words mean: each on its own words, and the next right behind it
    abbrev pub levels_on : List (ℕ × LevelSize) → List ℕ → List Level
    levels_on [] ws = []
    levels_on (l ∷ ls) ws =
        meaning l.0 l.1 (take (rules.need l.0 l.1) ws) ∷ levels_on ls (drop (rules.need l.0 l.1) ws)

  module _ (kept : ℕ → LevelSize → List ℕ → Type 0) where
    -- each level's words are such as BUILD leaves
    abbrev pub Kept : List (ℕ × LevelSize) → List ℕ → Type 0
    Kept [] ws = Unit {0}
    Kept (l ∷ ls) ws = kept l.0 l.1 (take (rules.need l.0 l.1) ws) × Kept ls (drop (rules.need l.0 l.1) ws)

-- what a slot's words and values hold of a tensor whose levels are ls and which uses n positions
abbrev pub storage : {P V : Type 0} → FormatRules → (ℕ → LevelSize → List ℕ → Level) → (P → V) → List (ℕ × LevelSize) → ℕ → List ℕ → List P → Storage V
storage rules meaning reads ls n ws vs = record { levels = levels_on rules meaning ls ws; values = map reads (take n vs) }
