-- What it is for a rack to mirror a book: its slots hold the book's tensors, its graph is that of the book's line, and its areas hold what the commands
-- carried out have made. Assumes nothing.
use Rattle.std.specs.Prelude.{◌≡◌, ℕ, ◌≤◌, false, List, ◌++◌, map, length, take, Some, None, Option, slice_index_or}
use Rattle.std.specs.List.{flat_map}
use Rattle.model.specs.Semirings.{Algebra}
use Rattle.model.specs.Fibers.{Level}
use Rattle.model.specs.Formats.{LevelSize}
use Rattle.model.specs.Commands.{bytes_of}
use Rattle.model.specs.Lowering.{bytes_of_line}
use Rattle.model.specs.Reading.{line_of}
use Rattle.model.specs.Running.{Table}
use Rattle.model.specs.Conditions.{Accepts}
use Rattle.model.specs.Meaning.{Ascending, extents_seen}
use Rattle.model.specs.Payloads.{LevelsBelow}
use Rattle.model.specs.Stores.{FormatRules}
use Rattle.model.specs.Books.{Slot, Loaded, Book, storage_of, tensors_of, commands_of, is_drained, state_of}
use Rattle.model.specs.Promises.{SlotsHold}
use Rattle.slots.specs.Layouts.{part, storage}
use Rattle.slots.specs.Records.{sizes, extents}
use Rattle.slots.specs.declared.records.TensorRecord.{TensorRecord}
use Rattle.results.specs.declared.key.ResultKey.{ResultKey}
use Rattle.results.specs.Tables.{entries}
use Rattle.results.specs.Padding.{padded, Wide}
use Rattle.streams.specs.Held.{Keeps}
use Rattle.rack_state.specs.Snapshots.{Snapshot}
use Rattle.rack_state.specs.declared.state.Loaded as code

-- The first n places of two rows hold a table whose keys ascend and have m coordinates each. In a row a key has three places, those that it does not
-- use 0.
pub record TableHeld {P V : Type 0} (reads : P → V) (m : ℕ) (t : Table V) (keys : List ResultKey) (sums : List P) (n : ℕ) : Type 0 where
  pub size : n ≡ length t
  pub keys_fit : n ≤ length keys
  pub sums_fit : n ≤ length sums
  pub table : entries reads keys sums n ≡ padded 3 t
  pub ascends : Ascending t
  pub wide : Wide m t
  pub narrow : m ≤ 3

module _ {P V : Type 0} (K : Algebra V) (reads : P → V) (rules : FormatRules) (meaning : ℕ → LevelSize → List ℕ → Level) where
  -- the record of slot n is that of the tensor x, and its parts of the areas hold it
  pub record SlotHeld (s : Snapshot P) (n : ℕ) (x : Slot V) (r : TensorRecord) : Type 0 where
    pub extents_are : extents r ≡ x.tensor.extents
    pub kept_as : storage rules meaning reads (sizes r) r.positions (part n s.sizes.level_words s.slots.words) (part n s.sizes.positions s.slots.values) ≡ storage_of K.zero (Some x)

  abbrev pub SlotMirrors : Snapshot P → ℕ → Option (Slot V) → Option TensorRecord → Type 0
  SlotMirrors s n None None = Unit {0}
  SlotMirrors s n None (Some r) = ⊥
  SlotMirrors s n (Some x) None = ⊥
  SlotMirrors s n (Some x) (Some r) = SlotHeld s n x r

  -- The graph of the book's line stands at the front of the graph's area, and the rack is at its next command. The tapes, values and results in use are those
  -- of the commands carried out, over the tensors held at COMPILE; until the graph is drained these are the tensors that are held now.
  pub record Carries (s : Snapshot P) (now_held : ℕ → Option (Slot V)) (g : Loaded V) (p : code.Loaded) : Type 0 where
    pub text : List ℕ
    pub accepted : Accepts (extents_seen (tensors_of g.slots)) text g.line
    pub held : SlotsHold K.zero g.slots
    pub small : LevelsBelow 0x80000000 (λ n. storage_of K.zero (g.slots n))
    pub same : is_drained g ≡ false → (n : ℕ) → g.slots n ≡ now_held n
    pub rest : List ℕ
    pub bytes : s.graph ≡ bytes_of_line (line_of g.line) ++ rest
    pub commands : s.commands ≡ length (commands_of g)
    pub within : g.count ≤ length (commands_of g)
    pub done : p.done ≡ g.count
    pub at : p.at ≡ length (flat_map bytes_of (take g.count (commands_of g)))
    pub left : p.left ≡ length (line_of g.line).left
    pub streams : Keeps (state_of K g).streams s.tapes s.words (map reads (take s.tapes.taken s.values))
    pub words_fit : s.tapes.used ≤ s.sizes.stream_words
    pub values_fit : s.tapes.taken ≤ s.sizes.stream_values
    pub table : TableHeld reads (length (line_of g.line).left) (state_of K g).table s.keys s.sums s.count
    pub results_fit : s.count ≤ s.sizes.places

  abbrev pub GraphMirrors : Snapshot P → (ℕ → Option (Slot V)) → Option (Loaded V) → Option code.Loaded → Type 0
  GraphMirrors s slots None None = Unit {0}
  GraphMirrors s slots None (Some p) = ⊥
  GraphMirrors s slots (Some g) None = ⊥
  GraphMirrors s slots (Some g) (Some p) = Carries s slots g p

  pub record Mirrors (b : Book V) (s : Snapshot P) : Type 0 where
    pub slots : (n : ℕ) → SlotMirrors s n (b.slots n) (slice_index_or s.slots.records n None)
    pub held : SlotsHold K.zero b.slots
    pub small : LevelsBelow 0x80000000 (λ n. storage_of K.zero (b.slots n))
    pub graph : GraphMirrors s b.slots b.loaded s.loaded
