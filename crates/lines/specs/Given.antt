-- The slots of the code, as a line sees them. Assumes nothing.
use Rattle.std.specs.Prelude.{ℕ, cond, List, take, None, Option, nat_lt, slice_index_or}
use Rattle.std.specs.Option.{option_map}
use Rattle.lines.specs.declared.given.Extents.{Extents}
use Rattle.lines.specs.declared.given.Slots.{Slots}

abbrev pub shown : Extents → List ℕ
shown e = take e.rank e.extents

abbrev pub slots_of : Slots → ℕ → Option (List ℕ)
slots_of t k = cond (nat_lt k 8) (option_map shown (slice_index_or t.tensors k None)) None
