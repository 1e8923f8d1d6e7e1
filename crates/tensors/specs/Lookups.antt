-- What a look at a stored tensor answers.
use Rattle.std.specs.Prelude.{◌≡◌, ℕ, List, length, Some, None, Option, ◌≢◌, slice_index_or}
use Rattle.model.specs.Fibers.{Level}
use Rattle.model.specs.Formats.{LevelSize}
use Rattle.model.specs.Stores.{Sizes, FormatRules}
use Rattle.model.specs.Tensors.{held_value}
use Rattle.slots.specs.Areas.{SlotState}
use Rattle.slots.specs.Layouts.{part, Kept, storage}
use Rattle.slots.specs.Records.{sizes}
use Rattle.slots.specs.declared.records.TensorRecord.{TensorRecord}

module _ {P V : Type 0} (rules : FormatRules) (meaning : ℕ → LevelSize → List ℕ → Level) (kept : ℕ → LevelSize → List ℕ → Type 0)
    (zero : V) (reads : P → V) (z : Sizes) (s : SlotState P) (slot : ℕ) (cs : List ℕ) where
  -- No value where the slot is empty, or the coordinates are not as many as the rank. Else the value that is held there, if the words are such as
  -- BUILD leaves, as after an accepted STORE.
  abbrev pub Found : Option TensorRecord → Option V → Type 0
  Found None r = r ≡ None
  Found (Some t) r =
      ((length cs ≢ t.rank) → r ≡ None)
      × (length cs ≡ t.rank → Kept rules kept (sizes t) (part slot z.level_words s.words)
      → r ≡ Some (held_value zero (storage rules meaning reads (sizes t) t.positions (part slot z.level_words s.words) (part slot z.positions s.values)) cs))

  abbrev pub Looked : Option V → Type 0
  Looked r = Found (slice_index_or s.records slot None) r
