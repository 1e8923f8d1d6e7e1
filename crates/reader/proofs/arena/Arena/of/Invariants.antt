use Rattle.std.proofs.Common.{◌≡◌, ℕ, ◌<◌, ◌≤◌, min, length}
use Rattle.reader.specs.Order.{node, Before, Behind}
use Rattle.reader.proofs.arena.Arena.of.Given as goal

-- up to a place the nodes stand behind their parts, and from there on they are as they were
abbrev pub invariant-loop-at : goal.invariant-loop-at
invariant-loop-at l =
    (l.arena.len ≡ min (length l.nodes) 256)
    × (length l.arena.nodes ≡ 256)
    × ((j : ℕ) → j < l.at → Before (node l.arena.nodes j) j)
    × ((j : ℕ) → j < l.at → Behind (node l.nodes j) j (node l.arena.nodes j))
    × ((j : ℕ) → l.at ≤ j → j < l.arena.len → node l.arena.nodes j ≡ node l.nodes j)
