-- What a stored level means, by what the words of each format mean.
use Rattle.std.specs.Prelude.{ℕ, List}
use Rattle.model.specs.Fibers.{Level}
use Rattle.model.specs.Formats as model
use Rattle.formats.specs.Sizes.{size_of}
use Rattle.levels.specs.declared.stored.StoredLevel.{StoredLevel}

abbrev pub level_of : (ℕ → model.LevelSize → List ℕ → Level) → StoredLevel → Level
level_of meaning l = meaning l.number (size_of l.size) l.words.now
