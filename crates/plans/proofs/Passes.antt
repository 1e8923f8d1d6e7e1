-- What a list keeps of which none passes a test.
use Rattle.std.proofs.Common.{◌≡◌, ℕ, zero, suc, ◌<◌, Bool, false, List, [], ◌∷◌, length, get_or, arith}
use Rattle.std.proofs.lemmas.Bool.{or_parts}
use Rattle.model.specs.Stores.{some_pass}

-- where none passes, no place does
pub none_passes : (p : ℕ → Bool) (xs : List ℕ) → some_pass p xs ≡ false → (i : ℕ) → i < length xs → p (get_or xs i 0) ≡ false
none_passes p [] e i h = absurd (omega arith)
none_passes p (x ∷ xs) e zero h = (or_parts (p x) (some_pass p xs) e).0
none_passes p (x ∷ xs) e (suc i) h = none_passes p xs (or_parts (p x) (some_pass p xs) e).1 i (omega arith)
