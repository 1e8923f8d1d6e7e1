-- What each call does: what it answers, for every input, and what every area then holds. Assumes nothing.
use Rattle.std.specs.Prelude.{◌≡◌, ℕ, ◌+◌, ◌*◌, List, take, drop}
use Rattle.model.specs.Semirings.{Algebra}
use Rattle.model.specs.Fibers.{Level}
use Rattle.model.specs.Formats.{LevelSize}
use Rattle.model.specs.Calls.{Request, Call, STORE, COMPILE, STEP, READ, DROP, Fault, Answer, refused}
use Rattle.model.specs.Stores.{FormatRules, sizes_of, positions_used}
use Rattle.model.specs.Books.{Book, Answers, Written}
use Rattle.slots.specs.Layouts.{needed}
use Rattle.streams.specs.Held.{Onward}
use Rattle.rack_state.specs.Snapshots.{Snapshot}
use Rattle.rack_state.specs.Mirrors.{Mirrors}

-- nothing but the slots is touched
pub record SlotsOnly {P : Type 0} (s t : Snapshot P) : Type 0 where
  pub sizes : t.sizes ≡ s.sizes
  pub graph : t.graph ≡ s.graph
  pub commands : t.commands ≡ s.commands
  pub loaded : t.loaded ≡ s.loaded
  pub tapes : t.tapes ≡ s.tapes
  pub words : t.words ≡ s.words
  pub values : t.values ≡ s.values
  pub keys : t.keys ≡ s.keys
  pub sums : t.sums ≡ s.sums
  pub count : t.count ≡ s.count

-- the slots and all areas are as they were, whatever is in use of them
pub record AreasKept {P : Type 0} (s t : Snapshot P) : Type 0 where
  pub sizes : t.sizes ≡ s.sizes
  pub slots : t.slots ≡ s.slots
  pub words : t.words ≡ s.words
  pub values : t.values ≡ s.values
  pub keys : t.keys ≡ s.keys
  pub sums : t.sums ≡ s.sums

-- a STORE: outside the words that its levels need and the positions that it uses nothing changes
pub record StoreFrame {P V : Type 0} (rules : FormatRules) (r : Request V) (s t : Snapshot P) : Type 0 where
  pub others : SlotsOnly s t
  pub words_before : take (r.slot * s.sizes.level_words) t.slots.words ≡ take (r.slot * s.sizes.level_words) s.slots.words
  pub words_behind :
      drop (r.slot * s.sizes.level_words + needed rules (sizes_of rules r)) t.slots.words
      ≡ drop (r.slot * s.sizes.level_words + needed rules (sizes_of rules r)) s.slots.words
  pub values_before : take (r.slot * s.sizes.positions) t.slots.values ≡ take (r.slot * s.sizes.positions) s.slots.values
  pub values_behind :
      drop (r.slot * s.sizes.positions + positions_used rules r) t.slots.values ≡ drop (r.slot * s.sizes.positions + positions_used rules r) s.slots.values

-- a STEP: the slots and the graph are as they were; words and values in use stay, and nothing changes past those that are in use afterwards, nor past the last key
pub record StepFrame {P : Type 0} (s t : Snapshot P) : Type 0 where
  pub sizes : t.sizes ≡ s.sizes
  pub slots : t.slots ≡ s.slots
  pub graph : t.graph ≡ s.graph
  pub commands : t.commands ≡ s.commands
  pub words : Onward s.tapes.used t.tapes.used s.words t.words
  pub values : Onward s.tapes.taken t.tapes.taken s.values t.values
  pub keys : drop t.count t.keys ≡ drop t.count s.keys
  pub sums : drop t.count t.sums ≡ drop t.count s.sums

-- what stays of a rack whatever a call answers
abbrev pub Frame : {P V : Type 0} → FormatRules → Call V → Snapshot P → Snapshot P → Type 0
Frame rules (STORE r) s t = StoreFrame rules r s t
Frame rules (COMPILE text) s t = AreasKept s t
Frame rules STEP s t = StepFrame s t
Frame rules (READ n) s t = t ≡ s
Frame rules DROP s t = AreasKept s t × (t.graph ≡ s.graph)

-- Refused, a call changes nothing. By every book that the rack mirrors, it answers what the book says; afterwards the rack mirrors the book into which the
-- call is written.
module _ {P V : Type 0} (K : Algebra V) (reads : P → V) (rules : FormatRules) (meaning : ℕ → LevelSize → List ℕ → Level) where
  pub record Does (c : Call V) (s : Snapshot P) (a : Answer V) (t : Snapshot P) : Type 0 where
    pub unchanged : (f : Fault) → a ≡ refused f → t ≡ s
    pub stays : Frame rules c s t
    pub by_book :
        (b : Book V) → Mirrors K reads rules meaning b s
        → Answers K s.sizes rules b c a × ((m : Book V) × Written b c a m × Mirrors K reads rules meaning m t)
