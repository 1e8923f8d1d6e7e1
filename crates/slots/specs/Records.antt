-- What the records of the slots say: the slots as a list by number, and of a tensor its levels' formats and sizes.
use Rattle.std.specs.Prelude.{ℕ, List, map, take, Option}
use Rattle.model.specs.Formats.{LevelSize}
use Rattle.formats.specs.Sizes.{size_of}
use Rattle.slots.specs.declared.records.Slots.{Slots}
use Rattle.slots.specs.declared.records.LevelRecord.{LevelRecord}
use Rattle.slots.specs.declared.records.TensorRecord.{TensorRecord}

abbrev pub slot_list : Slots → List (Option TensorRecord)
slot_list s = s.records

-- a level's format and size
abbrev pub level_of : LevelRecord → ℕ × LevelSize
level_of l = (l.format, size_of l.size)

-- the levels that count, the outermost first
abbrev pub sizes : TensorRecord → List (ℕ × LevelSize)
sizes r = map level_of (take r.rank r.levels)

abbrev pub extents : TensorRecord → List ℕ
extents r = map (λ l. l.1.extent) (sizes r)
