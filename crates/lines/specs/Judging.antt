-- What judging and reading a line say. Assumes nothing.
use Rattle.std.specs.Prelude.{◌≡◌, ℕ, List}
use Rattle.model.specs.Grammar.{Syntax}
use Rattle.model.specs.Conditions.{Slots, Spells, Accepts}
use Rattle.lines.specs.declared.line.Syntax.{Syntax as Record}
use Rattle.lines.specs.Describes.{Describes}

-- a rule's answer for the line that a record stands for
abbrev pub Answers : {A : Type 0} → List ℕ → Record → (Syntax → A) → A → Type 0
Answers s x rule r = (l : Syntax) → Spells s l → Describes x l → r ≡ rule l

-- the text is that of an accepted line for which x stands
abbrev pub ReadsLine : Slots → List ℕ → Record → Type 0
ReadsLine slots s x = (l : Syntax) × Accepts slots s l × Describes x l
