-- A rack as its users have it. Assumes nothing.
use Rattle.std.specs.Prelude.{◌≡◌, ℕ, true, false, List, Ok, Err, Result}
use Rattle.model.specs.Semirings.{Algebra}
use Rattle.model.specs.Fibers.{Level}
use Rattle.model.specs.Formats.{LevelSize}
use Rattle.model.specs.Stores.{FormatRules, wrong_sizes}
use Rattle.model.specs.Books.{new_book}
use Rattle.rack_state.specs.declared.areas.Areas.{Areas}
use Rattle.rack_state.specs.declared.areas.RackSizes.{RackSizes}
use Rattle.rack_state.specs.Snapshots.{Snapshot, view, sizes_given, lengths}
use Rattle.rack_state.specs.Mirrors.{Mirrors}
use Rattle.rack_state.specs.Making.{Fresh}
use Rattle.rack.specs.declared.rack.InUse.{InUse}
use Rattle.rack.specs.declared.rack.Rack.{Rack}

abbrev pub seen : {V S P : Type 0} → Rack V S P → Snapshot P
seen r = view r.state

abbrev pub taking : {P : Type 0} → Snapshot P → InUse
taking s = record { words = s.tapes.used; values = s.tapes.taken; results = s.count }

-- Refused exactly if a size is out of range or an area too short: then the areas are handed back. Else the rack is empty, as the new book says.
abbrev pub MadeRack : {P V S : Type 0} → Algebra V → (P → V) → FormatRules → (ℕ → LevelSize → List ℕ → Level) → RackSizes → Areas P → Result (Rack V S P) (Areas P) → Type 0
MadeRack K reads rules meaning z a (Ok r) =
    (wrong_sizes (sizes_given z) (lengths a) ≡ false) × Fresh z a (seen r) × Mirrors K reads rules meaning new_book (seen r)
MadeRack K reads rules meaning z a (Err back) = (wrong_sizes (sizes_given z) (lengths a) ≡ true) × (back ≡ a)
