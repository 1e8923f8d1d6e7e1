-- A level that holds every coordinate and numbers its children backwards.
use Rattle.std.specs.Prelude.{◌+◌, ◌-◌, ◌*◌}
use Rattle.model.specs.Fibers.{Level}
use Rattle.model.specs.Formats.{LevelSize, rows}

abbrev pub mirrored_level : LevelSize → Level
mirrored_level s = rows s.fibers (λ _. s.extent) (λ p c. (c, s.fibers * s.extent - (p * s.extent + c) - 1))
