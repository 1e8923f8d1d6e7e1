-- What the slots and their areas are, and when areas are taken.
use Rattle.std.specs.Prelude.{◌≡◌, ℕ, ◌*◌, ◌<◌, ◌≤◌, List, replicate, None, Ok, Err, vec_items, vec_len, Option, Result, Vec}
use Rattle.std.specs.declared.alloc.Global.{Global}
use Rattle.slots.specs.Records.{slot_list}
use Rattle.slots.specs.declared.areas.SlotAreas.{SlotAreas}
use Rattle.slots.specs.declared.areas.SlotSizes.{SlotSizes}
use Rattle.slots.specs.declared.records.TensorRecord.{TensorRecord}

-- the records of the slots, their level words, and their values as they lie there
pub record SlotState (P : Type 0) : Type 0 where
  pub records : List (Option TensorRecord)
  pub words : List ℕ
  pub values : List P

abbrev pub slot_state : {P : Type 0} → List (Option TensorRecord) → List ℕ → List P → SlotState P
slot_state records words values = record { records = records; words = words; values = values }

abbrev pub state_of : {P : Type 0} → SlotAreas P → SlotState P
state_of a = slot_state (slot_list a.slots) (vec_items a.words) (vec_items a.values)

abbrev pub InRange : ℕ → ℕ → Type 0
InRange positions words = (0 < positions) × (positions ≤ 4096) × (0 < words) × (words ≤ 8192)

-- Made of areas that have eight parts of these sizes; others are handed back.
abbrev pub Long : {P : Type 0} → SlotSizes → Vec ℕ Global → Vec P Global → Type 0
Long room words values = (8 * room.level_words ≤ vec_len words) × (8 * room.positions ≤ vec_len values)

abbrev pub Made : {P : Type 0} → SlotSizes → Vec ℕ Global → Vec P Global → Result (SlotAreas P) (Vec ℕ Global × Vec P Global) → Type 0
Made room words values (Ok a) = Long room words values × (a.room ≡ room) × (state_of a ≡ slot_state (replicate 8 None) (vec_items words) (vec_items values))
Made room words values (Err back) = (Long room words values → ⊥) × (back ≡ (words, values))
