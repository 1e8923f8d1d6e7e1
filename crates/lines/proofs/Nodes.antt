-- From a node to its parts. Assumes nothing.
use Rattle.std.proofs.Common.{◌≡◌, ℕ, ◌+◌, ◌<◌, ◌⊎◌, List, length}
use Rattle.reader.specs.declared.node.Node.{Node}
use Rattle.reader.specs.declared.node.Node.TheVariants.{Times, Plus}
use Rattle.model.specs.Grammar.{Tree, times, plus, text}
use Rattle.reader.specs.Nodes.{node, Holds}
use Rattle.reader.proofs.Views.{at_times, at_plus}

-- the node i joins the nodes j and k
abbrev pub Joins : (Tree → Tree → Tree) → List Node → ℕ → ℕ → ℕ → Type 1
Joins join ns i j k =
    (P : ℕ → Tree → Type 0) → ((a b : Tree) (at : ℕ) → j < i → k < i → Holds a at ns j → Holds b (at + length (text a) + 1) ns k → P at (join a b)) → (t : Tree) (at : ℕ) → Holds t at ns i → P at t

pub times_joins : (ns : List Node) (i j k : ℕ) → node ns i ≡ Times j k → Joins times ns i j k
times_joins ns i j k e P f = at_times P ns i j k e f

pub plus_joins : (ns : List Node) (i p j k : ℕ) → node ns i ≡ Plus p j k → Joins plus ns i j k
plus_joins ns i p j k e P f = at_plus P ns i p j k e (λ a b at x. f a b at)

-- a node that was looked up and joins two others, by a product or by a sum
abbrev pub Joined : Node → ℕ → ℕ → Type 0
Joined x j k = (x ≡ Times j k) ⊎ ((p : ℕ) × (x ≡ Plus p j k))
