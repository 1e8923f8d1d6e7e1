-- What a level means that was put together from its format, its size and its words.
use Rattle.std.proofs.Common.{◌≡◌, ℕ, List, ap, ◌∙◌, ap₂}
use Rattle.model.specs.Fibers.{Level}
use Rattle.model.specs.Formats as model
use Rattle.formats.specs.Sizes.{size_of}
use Rattle.formats.specs.declared.size.LevelSize.{LevelSize}
use Rattle.levels.specs.Stored.{level_of}
use Rattle.levels.specs.declared.stored.StoredLevel.{StoredLevel}

pub stored_means : (M : ℕ → model.LevelSize → List ℕ → Level) (l : StoredLevel) (f : ℕ) (s : LevelSize) (ws : List ℕ)
    → (l.number ≡ f) × (l.size ≡ s) × (l.words.now ≡ ws) → level_of M l ≡ M f (size_of s) ws
stored_means M l f s ws h = ap (λ x. M x (size_of l.size) l.words.now) h.0 ∙ ap₂ (λ y z. M f (size_of y) z) h.1 h.2
