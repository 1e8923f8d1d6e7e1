-- What a rack tells of a book that it mirrors: whether a graph is under way, and what a line sees of the slots. Assumes nothing.
use Rattle.std.proofs.Common.{◌≡◌, ℕ, List, get_or, Some, None, Option, refl, ap, ◌∙◌}
use mathlib.Core.Path.{fun_ext}
use Rattle.std.specs.Option.{option_map}
use Rattle.model.specs.Semirings.{Algebra}
use Rattle.model.specs.Fibers.{Level}
use Rattle.model.specs.Formats.{LevelSize}
use Rattle.model.specs.Conditions.{Slots}
use Rattle.model.specs.Meaning.{extents_seen}
use Rattle.model.specs.Stores.{FormatRules}
use Rattle.model.specs.Books.{Slot, Book, tensors_of, is_busy}
use Rattle.slots.specs.Records.{extents}
use Rattle.slots.specs.declared.records.TensorRecord.{TensorRecord}
use Rattle.rack_state.specs.Snapshots.{Snapshot}
use Rattle.rack_state.specs.Mirrors.{SlotMirrors, Mirrors}
use Rattle.rack_state.specs.Busy.{under_way}
use Rattle.rack_state.proofs.Mirrored.{busy_alike}

module _ {P V : Type 0} (K : Algebra V) (reads : P → V) (rules : FormatRules) (meaning : ℕ → LevelSize → List ℕ → Level) (s : Snapshot P) where
  slot_extents : (n : ℕ) (o : Option (Slot V)) (r : Option TensorRecord) → SlotMirrors K reads rules meaning s n o r → option_map extents r ≡ option_map (λ t. t.extents) (option_map (λ x. x.tensor) o)
  slot_extents n None None h = refl
  slot_extents n None (Some r) h = absurd h
  slot_extents n (Some x) None h = absurd h
  slot_extents n (Some x) (Some r) h = ap Some h.extents_are

  module _ (b : Book V) (m : Mirrors K reads rules meaning b s) where
    pub busy_as : is_busy b.loaded ≡ under_way s.loaded s.commands
    busy_as = busy_alike K reads rules meaning s b.slots b.loaded s.loaded m.graph

    pub seen_as : (see : Slots) → ((n : ℕ) → see n ≡ option_map extents (get_or s.slots.records n None)) → see ≡ extents_seen (tensors_of b.slots)
    seen_as see seen = fun_ext (λ n. seen n ∙ slot_extents n (b.slots n) (get_or s.slots.records n None) (m.slots n))
