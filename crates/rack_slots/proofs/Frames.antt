-- What a STORE leaves of a rack: all but one slot, and the graph, which is not under way. Assumes nothing.
use Rattle.std.proofs.Common.{◌≡◌, ℕ, false, List, Some, None, Option, sym, ◌∙◌, subst, ap₂}
use Rattle.std.proofs.lemmas.Bool.{not-false, both_ways}
use Rattle.model.specs.Semirings.{Algebra}
use Rattle.model.specs.Fibers.{Level}
use Rattle.model.specs.Formats.{LevelSize}
use Rattle.model.specs.Calls.{Call, Answer}
use Rattle.model.specs.Stores.{Sizes, FormatRules}
use Rattle.model.specs.Books as book
use Rattle.model.specs.Books.{Slot, is_drained, is_busy}
use Rattle.slots.specs.Areas.{SlotState}
use Rattle.slots.specs.Layouts.{part, storage}
use Rattle.slots.specs.Records.{sizes}
use Rattle.slots.specs.declared.areas.SlotSizes.{SlotSizes}
use Rattle.slots.specs.declared.records.TensorRecord.{TensorRecord}
use Rattle.rack_state.specs.Snapshots.{Snapshot}
use Rattle.rack_state.specs.Mirrors.{SlotMirrors, GraphMirrors}
use Rattle.rack_state.specs.Does.{Does}
use Rattle.rack_state.specs.declared.state.Loaded.{Loaded}
use Rattle.rack_state.specs.Busy.{under_way}
use Rattle.rack_state.proofs.Mirrored.{drained_alike}

-- a rack with other slots, of these sizes
abbrev pub with_areas : {P : Type 0} → Snapshot P → Sizes → SlotState P → Snapshot P
with_areas s z x =
    record {
      sizes = z;
      slots = x;
      graph = s.graph;
      commands = s.commands;
      loaded = s.loaded;
      tapes = s.tapes;
      words = s.words;
      values = s.values;
      keys = s.keys;
      sums = s.sums;
      count = s.count;
    }

abbrev pub with_slots : {P : Type 0} → Snapshot P → SlotState P → Snapshot P
with_slots s x = with_areas s s.sizes x

-- sizes of which those of a slot are these
abbrev pub with_room : Sizes → SlotSizes → Sizes
with_room z room =
    record {
      positions = room.positions;
      level_words = room.level_words;
      stream_words = z.stream_words;
      stream_values = z.stream_values;
      places = z.places;
    }

module _ {P V : Type 0} (K : Algebra V) (reads : P → V) (rules : FormatRules) (meaning : ℕ → LevelSize → List ℕ → Level) where
  -- a slot whose parts of the areas are as they were holds what it held
  pub slot_stays :
      (s : Snapshot P) (x : SlotState P) (n : ℕ)
      → part n s.sizes.level_words x.words ≡ part n s.sizes.level_words s.slots.words
      → part n s.sizes.positions x.values ≡ part n s.sizes.positions s.slots.values
      → (o : Option (Slot V)) (r : Option TensorRecord) → SlotMirrors K reads rules meaning s n o r → SlotMirrors K reads rules meaning (with_slots s x) n o r
  slot_stays s x n words values None None m = tt
  slot_stays s x n words values None (Some r) m = absurd m
  slot_stays s x n words values (Some o) None m = absurd m
  slot_stays s x n words values (Some o) (Some r) m = record {
    extents_are = m.extents_are;
    kept_as = ap₂ (storage rules meaning reads (sizes r) r.positions) words values ∙ m.kept_as;
  }

  -- a graph that is not under way no longer speaks of what the slots hold now
  pub graph_stays :
      (s : Snapshot P) (x : SlotState P) (old new : ℕ → Option (Slot V)) (g : Option (book.Loaded V)) (p : Option Loaded) → under_way p s.commands ≡ false
      → GraphMirrors K reads rules meaning s old g p → GraphMirrors K reads rules meaning (with_slots s x) new g p
  graph_stays s x old new None None idle m = tt
  graph_stays s x old new None (Some p) idle m = absurd m
  graph_stays s x old new (Some g) None idle m = absurd m
  graph_stays s x old new (Some g) (Some p) idle m = record {
    text = m.text;
    accepted = m.accepted;
    held = m.held;
    small = m.small;
    same = λ h n. absurd (both_ways (is_drained g) h (sym (drained_alike K reads rules meaning s old g p m) ∙ not-false _ idle));
    rest = m.rest;
    bytes = m.bytes;
    commands = m.commands;
    within = m.within;
    done = m.done;
    at = m.at;
    left = m.left;
    streams = m.streams;
    words_fit = m.words_fit;
    values_fit = m.values_fit;
    table = m.table;
    results_fit = m.results_fit;
  }

  -- the slots have the room that they had
  pub in_same_room :
      (c : Call V) (s : Snapshot P) (a : Answer V) (x : SlotState P) (old new : SlotSizes) → new ≡ old
      → Does K reads rules meaning c s a (with_areas s (with_room s.sizes old) x) → Does K reads rules meaning c s a (with_areas s (with_room s.sizes new) x)
  in_same_room c s a x old new e d = subst (λ (room : SlotSizes). Does K reads rules meaning c s a (with_areas s (with_room s.sizes room) x)) (sym e) d
