-- Nodes stand behind their parts. Assumes nothing.
use Rattle.std.specs.Prelude.{◌≡◌, ℕ, ◌<◌, List, length, slice_index_or}
use Rattle.reader.specs.declared.node.Node.{Node}
use Rattle.reader.specs.declared.node.Node.TheVariants.{Access, Group, Times, Plus}
use Rattle.reader.specs.declared.arena.Arena.{Arena}

abbrev pub node : List Node → ℕ → Node
node ns i = slice_index_or ns i (Access 0 0 0)

-- the parts of a node stand before i
abbrev pub Before : Node → ℕ → Type 0
Before x i = ((p j : ℕ) → x ≡ Group p j → j < i) × ((j k : ℕ) → x ≡ Times j k → (j < i) × (k < i)) × ((p j k : ℕ) → x ≡ Plus p j k → (j < i) × (k < i))

-- y is x where the parts of x stand before i, and a node of no variables where they do not
abbrev pub Behind : Node → ℕ → Node → Type 0
Behind x i y = (Before x i → y ≡ x) × ((Before x i → ⊥) → y ≡ Access 0 0 0)

abbrev pub PartsFirst : List Node → Type 0
PartsFirst ns = (i : ℕ) → i < length ns → Before (node ns i) i

-- the nodes that were made stand behind their parts
abbrev pub Ordered : Arena → Type 0
Ordered a = (i : ℕ) → i < a.len → Before (node a.nodes i) i
