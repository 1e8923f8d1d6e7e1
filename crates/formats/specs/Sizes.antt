-- What the code's size of a level means, and which numbers it takes.
use Rattle.std.specs.Prelude.{ℕ, ◌≤◌}
use Rattle.model.specs.Formats as model
use Rattle.formats.specs.declared.size.LevelSize.{LevelSize}

abbrev pub size_of : LevelSize → model.LevelSize
size_of s = record { extent = s.extent; fibers = s.fibers; entries = s.entries }

abbrev pub Small : ℕ → ℕ → ℕ → Type 0
Small extent fibers entries = (extent ≤ 4096) × (fibers ≤ 65536) × (entries ≤ 65536)
