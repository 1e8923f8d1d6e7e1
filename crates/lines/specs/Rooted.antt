-- The nodes of a line that was read. Assumes nothing.
use Rattle.std.specs.Prelude.{◌<◌, ◌≤◌}
use Rattle.lines.specs.declared.line.Syntax.{Syntax as Record}

-- the root is one of the nodes that were made, and those are few
pub record Rooted (x : Record) : Type 0 where
  pub made : x.parsed.root < x.parsed.arena.len
  pub few : x.parsed.arena.len ≤ 256
