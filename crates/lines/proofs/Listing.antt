-- Lists of variables with their places. Assumes nothing.
use Rattle.std.proofs.Common.{◌≡◌, ℕ, suc, ◌+◌, List, [], ◌∷◌, length, refl, ap}
use Rattle.model.specs.Reading.{placed_vars}

pub length_placed : (p : ℕ) (vs : List ℕ) → length (placed_vars p vs) ≡ length vs
length_placed p [] = refl
length_placed p (v ∷ vs) = ap suc (length_placed (p + 2) vs)
