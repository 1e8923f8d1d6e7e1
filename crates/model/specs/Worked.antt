-- Worked examples of the definitions, each written out in full. Assumes nothing.
use Rattle.std.specs.Prelude.{ℕ, codes}
use Rattle.model.specs.Conditions.{Slots, grammar, Refuses}

-- A line that breaks off inside an access: over any slots it is refused as not the grammar, at this place.
abbrev pub Unfinished : ℕ → Type 0
Unfinished place = (slots : Slots) → Refuses slots (codes "R(i)=A(i") (record { rule = grammar; place = place })
