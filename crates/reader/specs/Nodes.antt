-- Nodes that stand for a tree. Assumes nothing.
use Rattle.std.specs.Prelude.{◌≡◌, ℕ, ◌+◌, ◌-◌, ◌<◌, List, length}
use Rattle.reader.specs.declared.node.Node.{Node}
use Rattle.reader.specs.declared.node.Node.TheVariants.{Access, Group, Times, Plus}
use Rattle.reader.specs.declared.arena.Arena.{Arena}
pub use Rattle.reader.specs.Order.{node}
use Rattle.model.specs.Grammar.{Tree, access, group, times, plus, text}

-- The node i stands for the tree t that is written from `at` on, and its parts stand before it.
-- An access has the place of its letter, its slot and its number of variables, a group that of its bracket, a plus that of its sign.
abbrev pub Holds : Tree → ℕ → List Node → ℕ → Type 0
Holds (access l vs) at ns i = node ns i ≡ Access at (l - 65) (length vs)
Holds (group t) at ns i = (j : ℕ) × (j < i) × (node ns i ≡ Group at j) × Holds t (at + 1) ns j
Holds (times a b) at ns i = (j : ℕ) × (k : ℕ) × (j < i) × (k < i) × (node ns i ≡ Times j k) × Holds a at ns j × Holds b (at + length (text a) + 1) ns k
Holds (plus a b) at ns i = (j : ℕ) × (k : ℕ) × (j < i) × (k < i) × (node ns i ≡ Plus (at + length (text a)) j k) × Holds a at ns j × Holds b (at + length (text a) + 1) ns k

-- x was added behind the nodes of old, at r
pub record Pushed (old : Arena) (x : Node) (new : Arena) (r : ℕ) : Type 0 where
  pub place : r ≡ old.len
  pub len : new.len ≡ old.len + 1
  pub here : node new.nodes r ≡ x
  pub same : (i : ℕ) → i < old.len → node new.nodes i ≡ node old.nodes i
