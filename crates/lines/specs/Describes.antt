-- The line that the code's record of a line stands for. Assumes nothing.
use Rattle.std.specs.Prelude.{◌≡◌, ℕ, ◌≤◌, List, map, length}
use Rattle.model.specs.Grammar.{Syntax}
use Rattle.model.specs.Reading.{order_place, placed_accesses}
use Rattle.model.specs.Conditions.{Spells}
use Rattle.reader.specs.Whole.{Stands}
use Rattle.lines.specs.declared.line.Syntax.{Syntax as Record}
use Rattle.lines.specs.Tables.{entries, entry}

-- x stands for the line l: its nodes for the tree of the right side, and its table for the accesses from left to right
pub record Describes (x : Record) (l : Syntax) : Type 0 where
  pub stands : Stands x.parsed l
  pub left : x.left ≡ record { place = 2; count = length l.left }
  pub order : x.order ≡ record { place = order_place l; count = length l.order }
  pub table : entries x.accesses ≡ map entry (placed_accesses l)
  pub room : x.accesses.len ≤ 128

-- the text is that of a line for which x stands
abbrev pub Described : List ℕ → Record → Type 0
Described s x = (l : Syntax) × Spells s l × Describes x l
