-- What it is to make calls one after another, and to make them on a rack just made. Assumes nothing.
use Rattle.std.specs.Prelude.{◌≡◌, ℕ, min, true, false, List, length, drop, Ok, Err, Result}
use Rattle.model.specs.Semirings.{Algebra}
use Rattle.model.specs.Fibers.{Level}
use Rattle.model.specs.Formats.{LevelSize}
use Rattle.model.specs.Stores.{FormatRules, wrong_sizes}
use Rattle.rack_state.specs.declared.areas.Areas.{Areas}
use Rattle.rack_state.specs.declared.areas.RackSizes.{RackSizes}
use Rattle.rack_state.specs.Snapshots.{Snapshot, sizes_given, lengths}
use Rattle.rack_state.specs.Making.{Fresh}
use Rattle.rack.specs.declared.rack.Rack.{Rack}
use Rattle.rack.specs.declared.events.Call.{Call}
use Rattle.rack.specs.Racks.{seen}
use Rattle.rack.specs.Courses.{Course, Promise}
use Rattle.rack.specs.Events.{Answer, events}

module _ {P V : Type 0} (K : Algebra V) (reads : P → V) (rules : FormatRules) (meaning : ℕ → LevelSize → List ℕ → Level) where
  -- The calls are made in their order and their answers written, as many as there are places for; answers past them stay.
  abbrev pub Performed : List (Call P) → Snapshot P → List (Answer V) → Snapshot P → List (Answer V) → Type 0
  Performed cs s before t after =
      Course K reads rules meaning s (events reads cs after) t × (drop (min (length cs) (length before)) after ≡ drop (min (length cs) (length before)) before)

  -- Made: from a rack that is fresh, the calls led to this one, and after every call what is promised holds.
  pub record RanWell {S : Type 0} (z : RackSizes) (a : Areas P) (cs : List (Call P)) (before : List (Answer V)) (r : Rack V S P) (after : List (Answer V)) : Type 0 where
    pub right : wrong_sizes (sizes_given z) (lengths a) ≡ false
    pub start : Snapshot P
    pub fresh : Fresh z a start
    pub promise : Promise K reads rules meaning start (events reads cs after) (seen r)
    pub unasked : drop (min (length cs) (length before)) after ≡ drop (min (length cs) (length before)) before

  -- Refused exactly for wrong sizes: the areas are handed back, and no answer is written.
  abbrev pub Ran : {S : Type 0} → RackSizes → Areas P → List (Call P) → List (Answer V) → Result (Rack V S P) (Areas P) → List (Answer V) → Type 0
  Ran z a cs before (Ok r) after = RanWell z a cs before r after
  Ran z a cs before (Err back) after = (wrong_sizes (sizes_given z) (lengths a) ≡ true) × (back ≡ a) × (after ≡ before)
