use Rattle.std.proofs.Common.{◌≡◌, ℕ, ◌<◌}
use Rattle.reader.specs.Nodes.{node}
use Rattle.reader.proofs.arena.Arena.of_any.Given as goal

-- as many as were taken, and each as it was
abbrev pub invariant-loop-node : goal.invariant-loop-node
invariant-loop-node l = (l.arena.len ≡ l.node-index) × ((j : ℕ) → j < l.arena.len → node l.arena.nodes j ≡ node l.nodes j)
