-- A rack with the graph of a line in place of the one before, and no command carried out, mirrors the book with that line. Assumes nothing.
use Rattle.std.proofs.Common.{◌≡◌, ℕ, ◌≤◌, List, [], map, length, get_or, take, drop, Some, None, Option, sym, refl, ap, ◌∙◌, subst, arith}
use Rattle.model.specs.Semirings.{Algebra}
use Rattle.model.specs.Fibers.{Level}
use Rattle.model.specs.Formats.{LevelSize}
use Rattle.model.specs.Grammar.{Syntax}
use Rattle.model.specs.Reading.{line_of}
use Rattle.model.specs.Lowering.{bytes_of_line}
use Rattle.model.specs.Conditions.{Accepts}
use Rattle.model.specs.Meaning.{extents_seen}
use Rattle.model.specs.Stores.{FormatRules}
use Rattle.model.specs.Books as book
use Rattle.model.specs.Books.{Slot, Book, tensors_of}
use Rattle.model.proofs.Limits.{no_faults, within_limits}
use Rattle.slots.specs.declared.records.TensorRecord.{TensorRecord}
use Rattle.results.specs.declared.key.ResultKey.{ResultKey}
use Rattle.streams.specs.declared.record.Tapes.{Tapes}
use Rattle.streams.specs.Records.{Empty}
use Rattle.streams.specs.Held.{Keeps}
use Rattle.streams.proofs.Laws.{kept_none}
use Rattle.graphs.specs.declared.graph.Graph.{Graph}
use Rattle.graphs.specs.Lowers.{Lowers}
use Rattle.rack_state.specs.Snapshots.{Snapshot}
use Rattle.rack_state.specs.Mirrors.{TableHeld, SlotMirrors, Carries, Mirrors}

-- a rack with a graph at its first command, and neither streams nor results
abbrev pub with_graph : {P : Type 0} → Snapshot P → Graph → Tapes → ℕ → Snapshot P
with_graph s graph tapes left =
    record {
      sizes = s.sizes;
      slots = s.slots;
      graph = graph.bytes;
      commands = graph.commands;
      loaded = Some (record { at = 0; done = 0; left = left });
      tapes = tapes;
      words = s.words;
      values = s.values;
      keys = s.keys;
      sums = s.sums;
      count = 0;
    }

abbrev pub first_command : {V : Type 0} → Book V → Syntax → book.Loaded V
first_command b l = record { line = l; slots = b.slots; count = 0 }

abbrev pub with_line : {V : Type 0} → Book V → Syntax → Book V
with_line b l = record { slots = b.slots; loaded = Some (first_command b l) }

no_streams : {P V : Type 0} (reads : P → V) (t : Tapes) (words : List ℕ) (values : List P) → Empty t → Keeps [] t words (map reads (take t.taken values))
no_streams reads t words values e = subst (Keeps [] t words) (sym (ap (λ n. map reads (take n values)) e.taken)) (kept_none t words e)

no_results : {P V : Type 0} (reads : P → V) (m : ℕ) → m ≤ 3 → (keys : List ResultKey) (sums : List P) → TableHeld reads m [] keys sums 0
no_results reads m h keys sums = record { size = refl; keys_fit = omega arith; sums_fit = omega arith; table = refl; ascends = tt; wide = tt; narrow = h }

module _ {P V : Type 0} (K : Algebra V) (reads : P → V) (rules : FormatRules) (meaning : ℕ → LevelSize → List ℕ → Level) (s : Snapshot P) (before after : Graph) (tapes : Tapes) (left n : ℕ) where
  slot_stays : (k : ℕ) (o : Option (Slot V)) (r : Option TensorRecord) → SlotMirrors K reads rules meaning s k o r → SlotMirrors K reads rules meaning (with_graph s after tapes left) k o r
  slot_stays k None None h = tt
  slot_stays k None (Some r) h = absurd h
  slot_stays k (Some x) None h = absurd h
  slot_stays k (Some x) (Some r) h = record { extents_are = h.extents_are; kept_as = h.kept_as }

  module _ (text : List ℕ) (l : Syntax) (low : Lowers l before after n) (many : left ≡ length l.left) (empty : Empty tapes) (b : Book V) (m : Mirrors K reads rules meaning b s) (a : Accepts (extents_seen (tensors_of b.slots)) text l) where
    carries : Carries K reads rules meaning (with_graph s after tapes left) b.slots (first_command b l) (record { at = 0; done = 0; left = left })
    carries =
        record {
          text = text;
          accepted = a;
          held = m.held;
          small = m.small;
          same = λ d k. refl;
          rest = drop (length (bytes_of_line (line_of l))) before.bytes;
          bytes = low.bytes;
          commands = low.counted ∙ low.commands;
          within = omega arith;
          done = refl;
          at = refl;
          left = many;
          streams = no_streams reads tapes s.words s.values empty;
          words_fit = omega (arith, empty.used);
          values_fit = omega (arith, empty.taken);
          table = no_results reads (length l.left) (within_limits l (no_faults (extents_seen (tensors_of b.slots)) l a.1).within).left s.keys s.sums;
          results_fit = omega arith;
        }

    pub mirrors_line : Mirrors K reads rules meaning (with_line b l) (with_graph s after tapes left)
    mirrors_line =
        record {
          slots = λ k. slot_stays k (b.slots k) (get_or s.slots.records k None) (m.slots k);
          held = m.held;
          small = m.small;
          graph = carries;
        }
