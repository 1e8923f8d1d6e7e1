-- What stands at a format number: the first at 0, the second at any other.
use Rattle.std.specs.Prelude.{ℕ, zero, suc}

abbrev pub chosen : {X : Type 0} → ℕ → X → X → X
chosen zero a b = a
chosen (suc n) a b = b

-- the same of types
abbrev pub Chosen : ℕ → Type 0 → Type 0 → Type 0
Chosen zero P Q = P
Chosen (suc n) P Q = Q
