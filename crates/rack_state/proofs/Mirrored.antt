-- What is loaded of a rack is what its book has loaded. Assumes nothing.
use Rattle.std.proofs.Common.{◌≡◌, ℕ, not, eqb, List, Some, None, Option, sym, refl, ap, ap₂}
use Rattle.model.specs.Semirings.{Algebra}
use Rattle.model.specs.Fibers.{Level}
use Rattle.model.specs.Formats.{LevelSize}
use Rattle.model.specs.Stores.{FormatRules}
use Rattle.model.specs.Books as book
use Rattle.model.specs.Books.{Slot, is_drained, is_busy}
use Rattle.rack_state.specs.Snapshots.{Snapshot}
use Rattle.rack_state.specs.Mirrors.{GraphMirrors, Carries}
use Rattle.rack_state.specs.declared.state.Loaded.{Loaded}
use Rattle.rack_state.specs.Busy.{under_way}

module _ {P V : Type 0} (K : Algebra V) (reads : P → V) (rules : FormatRules) (meaning : ℕ → LevelSize → List ℕ → Level) where
  pub drained_alike : (s : Snapshot P) (slots : ℕ → Option (Slot V)) (g : book.Loaded V) (p : Loaded) → Carries K reads rules meaning s slots g p → eqb p.done s.commands ≡ is_drained g
  drained_alike s slots g p c = ap₂ eqb c.done c.commands

  -- the rack is busy exactly if its book is
  pub busy_alike :
      (s : Snapshot P) (slots : ℕ → Option (Slot V)) (g : Option (book.Loaded V)) (p : Option Loaded) → GraphMirrors K reads rules meaning s slots g p
      → is_busy g ≡ under_way p s.commands
  busy_alike s slots None None m = refl
  busy_alike s slots None (Some p) m = absurd m
  busy_alike s slots (Some g) None m = absurd m
  busy_alike s slots (Some g) (Some p) m = ap not (sym (drained_alike s slots g p m))
