-- The table of a line's accesses. Assumes nothing.
use Rattle.std.specs.Prelude.{◌≡◌, ℕ, ◌+◌, ◌^◌, ◌<◌, ◌≤◌, List, ◌++◌, map, length, take}
use Rattle.std.specs.List.{AllByRecursion}
use Rattle.reader.specs.declared.node.Node.{Node}
use Rattle.model.specs.Grammar.{Tree, text}
use Rattle.model.specs.Reading.{PlacedAccess, accesses_from}
use Rattle.reader.specs.Nodes.{Holds}
use Rattle.reader.specs.Lists.{vars_of}
use Rattle.lines.specs.declared.accesses.Access.{Access}
use Rattle.lines.specs.declared.accesses.Accesses.{Accesses}

abbrev pub entries : Accesses → List Access
entries t = take t.len t.list

-- what the table keeps of an access, and the access that an entry stands for in a text
abbrev pub entry : PlacedAccess → Access
entry a = record { place = a.place; slot = a.of.slot; vars = record { place = a.place + 2; count = length a.of.vars } }

abbrev pub stood_for : List ℕ → Access → PlacedAccess
stood_for s a = record { place = a.place; of = record { slot = a.slot; vars = vars_of s a.vars } }

pub record Added (old new : Accesses) (es : List Access) : Type 0 where
  pub list : entries new ≡ entries old ++ es
  pub len : new.len ≡ old.len + length es

-- there is room for the accesses of a tree, which is written from `at` on in a line
abbrev pub FitsIn : Accesses → ℕ → Tree → Type 0
FitsIn into at t = (into.len + length (accesses_from at t) ≤ 128) × (at + length (text t) ≤ 256)

-- the places at which the variables of accesses begin are 64-bit numbers
abbrev pub Placeable : List PlacedAccess → Type 0
Placeable xs = AllByRecursion (λ a. a.place + 2 < 2 ^ 64) xs

-- the same of a tree that is written anywhere
abbrev pub HasRoom : Accesses → ℕ → Tree → Type 0
HasRoom into at t = (into.len + length (accesses_from at t) ≤ 128) × Placeable (accesses_from at t)

-- the accesses of the node i are added, where there is room for them
abbrev pub Collected : List Node → ℕ → Accesses → Accesses → Type 0
Collected ns i old new = (t : Tree) (at : ℕ) → Holds t at ns i → HasRoom old at t → Added old new (map entry (accesses_from at t))
