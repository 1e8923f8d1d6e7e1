-- The areas that commands work in, cut to the room that there is in them, and what carrying out a command leaves of them. Assumes nothing.
use Rattle.std.specs.Prelude.{◌≡◌, ℕ, min, Bool, false, List, length, take, drop, vec_items}
use Rattle.model.specs.Semirings.{Algebra}
use Rattle.model.specs.Fibers.{Level}
use Rattle.model.specs.Formats.{LevelSize}
use Rattle.model.specs.Tensors.{Storage}
use Rattle.model.specs.Streams.{Stream}
use Rattle.model.specs.Commands.{Command}
use Rattle.model.specs.Running.{Table}
use Rattle.model.specs.Stores.{FormatRules}
use Rattle.slots.specs.Areas.{SlotState}
use Rattle.results.specs.declared.key.ResultKey.{ResultKey}
use Rattle.streams.specs.declared.record.Tapes.{Tapes}
use Rattle.streams.specs.Held.{Framed, ValuesFramed}
use Rattle.rack_state.specs.declared.areas.ResultAreas.{ResultAreas}
use Rattle.rack_state.specs.declared.areas.StreamAreas.{StreamAreas}
use Rattle.rack_state.specs.Snapshots.{Snapshot}
use Rattle.execution.specs.Carried.{Ready, Outcome, RowFramed}

-- the stream words and values, the rows of the result, and what is in use of them
pub record Working (P : Type 0) : Type 0 where
  pub tapes : Tapes
  pub words : List ℕ
  pub values : List P
  pub keys : List ResultKey
  pub sums : List P
  pub count : ℕ

abbrev pub working : {P : Type 0} → Tapes → List ℕ → List P → List ResultKey → List P → ℕ → Working P
working tapes words values keys sums count = record { tapes = tapes; words = words; values = values; keys = keys; sums = sums; count = count }

-- what the areas of a rack hold
abbrev pub working_in : {P : Type 0} → StreamAreas P → ResultAreas P → Working P
working_in a r = working a.tapes (vec_items a.words) (vec_items a.values) (vec_items r.keys) (vec_items r.sums) r.count

abbrev pub working_of : {P : Type 0} → Snapshot P → Working P
working_of s = working s.tapes s.words s.values s.keys s.sums s.count

-- the areas as far as there is room
abbrev pub fronts : {P : Type 0} → (word_room value_room places : ℕ) → Working P → Working P
fronts word_room value_room places w = working w.tapes (take word_room w.words) (take value_room w.values) (take places w.keys) (take places w.sums) w.count

-- all that lies past the room is as it was
pub record PastKept {P : Type 0} (word_room value_room places : ℕ) (w u : Working P) : Type 0 where
  pub words : drop word_room u.words ≡ drop word_room w.words
  pub values : drop value_room u.values ≡ drop value_room w.values
  pub keys : drop places u.keys ≡ drop places w.keys
  pub sums : drop places u.sums ≡ drop places w.sums

module _ {P V : Type 0} (K : Algebra V) (reads : P → V) (rules : FormatRules) (meaning : ℕ → LevelSize → List ℕ → Level) where
  -- What a command that was answered r leaves of the areas w: the frames for every input, and the outcome where the command finds what it asks for.
  pub record CarriedOut (level_words positions : ℕ) (s : SlotState P) (c : Command) (w : Working P) (r : Bool) (u : Working P) : Type 0 where
    pub words : Framed w.tapes w.words r u.tapes u.words
    pub values : ValuesFramed w.tapes w.values r u.tapes u.values
    pub keys : RowFramed w.keys r u.count u.keys
    pub sums : RowFramed w.sums r u.count u.sums
    pub counted : r ≡ false → u.count ≡ w.count
    pub done :
        (T : ℕ → Storage V) (ss : List (Stream V)) (t : Table V) (m : ℕ)
        → Ready K reads rules meaning level_words positions m s T ss t c w.tapes w.words w.values w.keys w.sums w.count
        → Outcome K reads rules meaning T ss t c m (length w.words) (length w.values) (min (length w.keys) (length w.sums))
        r u.tapes u.words u.values u.keys u.sums u.count

  -- the same within the room of the areas, past which nothing changes
  pub record CarriedWithin (word_room value_room places level_words positions : ℕ) (s : SlotState P) (c : Command) (w : Working P) (r : Bool) (u : Working P) : Type 0 where
    pub front : CarriedOut level_words positions s c (fronts word_room value_room places w) r (fronts word_room value_room places u)
    pub past : PastKept word_room value_room places w u
