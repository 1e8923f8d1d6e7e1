-- What reading a whole line says: nodes that stand for the line that a text is. Assumes nothing.
use Rattle.std.specs.Prelude.{◌≡◌, ℕ, ◌<◌, ◌≤◌, List}
use Rattle.reader.specs.declared.parsing.Parsed.{Parsed}
use Rattle.model.specs.Grammar.{Syntax}
use Rattle.model.specs.Reading.{body_place, order_place}
use Rattle.model.specs.Conditions.{Spells}
use Rattle.reader.specs.Nodes.{Holds}

-- x stands for the line l: where its right side and its loop order begin, and the tree of the right side
pub record Stands (x : Parsed) (l : Syntax) : Type 0 where
  pub body : x.body ≡ body_place l
  pub order : x.order ≡ order_place l
  pub below : x.root < x.arena.len
  pub room : x.arena.len ≤ 256
  pub holds : Holds l.body x.body x.arena.nodes x.root

-- the text is that of a line, and x stands for it
abbrev pub Parses : List ℕ → Parsed → Type 0
Parses s x = (l : Syntax) × Spells s l × Stands x l
