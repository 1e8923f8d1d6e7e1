-- Where a tensor's levels and values lie in areas of which each slot has a part, and what is answered to who asks.
use Rattle.std.specs.Prelude.{◌≡◌, ℕ, ◌+◌, ◌-◌, ◌*◌, ◌<◌, ◌≤◌, min, List, [], get_or, take, drop, Some, None, Option, slice_index_or}
use Rattle.model.specs.Fibers.{Level}
use Rattle.model.specs.Formats.{LevelSize}
use Rattle.model.specs.Stores.{FormatRules}
use Rattle.formats.specs.Sizes.{size_of}
use Rattle.slots.specs.Layouts.{part, levels_on}
use Rattle.slots.specs.Records.{sizes, level_of}
use Rattle.slots.specs.declared.records.TensorRecord.{TensorRecord}
use Rattle.plans.specs.Rooms.{level_size}
use Rattle.placing.specs.declared.places.PlacedLevel.{PlacedLevel}
use Rattle.placing.specs.declared.places.PlacedValues.{PlacedValues}

module _ (rules : FormatRules) (meaning : ℕ → LevelSize → List ℕ → Level) (size slot : ℕ) where
  -- A level of a tensor in a slot: which it is, and that its words mean what the slot's part means there, whatever the words of the area.
  pub record LevelLies (t : TensorRecord) (level : ℕ) (p : PlacedLevel) : Type 0 where
    pub is : get_or (sizes t) level (0, level_size 0 0 0) ≡ level_of p.record
    pub ordered : p.words.start ≤ p.words.end
    pub within : p.words.end ≤ 8 * size
    pub means : (ws : List ℕ) →
        meaning p.record.format (size_of p.record.size) (take (p.words.end - p.words.start) (drop p.words.start ws)) ≡ slice_index_or (levels_on rules meaning (sizes t) (part slot size ws)) level []

  -- What is answered of a slot that holds a tensor or none: none exactly if it is empty or its tensor has no such level.
  abbrev pub LevelAnswer : ℕ → Option TensorRecord → Option PlacedLevel → Type 0
  LevelAnswer level None None = Unit {0}
  LevelAnswer level None (Some p) = ⊥
  LevelAnswer level (Some t) None = t.rank ≤ level
  LevelAnswer level (Some t) (Some p) = (level < t.rank) × LevelLies t level p

module _ (P : Type 0) (size slot : ℕ) where
  -- The values of a tensor in a slot: where they start and end, and that they are those of the slot's part, whatever the values of the area.
  pub record ValuesLie (t : TensorRecord) (p : PlacedValues) : Type 0 where
    pub starts : p.start ≡ slot * size
    pub ends : p.end ≡ p.start + min t.positions size
    pub ordered : p.start ≤ p.end
    pub within : p.end ≤ 8 * size
    pub reads : (vs : List P) → take (p.end - p.start) (drop p.start vs) ≡ take t.positions (part slot size vs)

  -- none exactly if the slot is empty
  abbrev pub ValuesAnswer : Option TensorRecord → Option PlacedValues → Type 0
  ValuesAnswer None None = Unit {0}
  ValuesAnswer None (Some p) = ⊥
  ValuesAnswer (Some t) None = ⊥
  ValuesAnswer (Some t) (Some p) = ValuesLie t p
