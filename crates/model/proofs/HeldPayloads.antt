-- Levels that hold a tensor have small coordinates and children. Assumes nothing.
use Rattle.std.proofs.Common.{ℕ, ◌<◌, ◌≤◌, List, [], ◌∷◌, length, arith}
use Rattle.std.specs.List.{AllByRecursion}
use Rattle.std.proofs.ByRecursion.{All-from_get_or}
use Rattle.model.specs.Fibers.{Level, Lawful, fiber}
use Rattle.model.specs.Tensors.{Stacked}
use Rattle.model.specs.Positions.{HeldBelow}

module _ (b : ℕ) where
  abbrev Low : ℕ × ℕ → Type 0
  Low x = (x.0 < b) × (x.1 < b)

  level_low : (e f m : ℕ) (l : Level) → Lawful e f m l → e ≤ b → m ≤ b → AllByRecursion (AllByRecursion Low) l
  level_low e f m l law extent children =
      All-from_get_or (AllByRecursion Low) l []
      λ p p_in. All-from_get_or Low (fiber l p) (0, 0)
      λ k k_in.
      let lt : p < f = omega (arith, law.number) in
      (omega (arith, law.within p k lt k_in), omega (arith, law.below p k lt k_in))

  -- the fibers of the first level, or the value positions where there is none
  first_few : (es : List ℕ) (f : ℕ) (ls : List Level) (n : ℕ) → Stacked es f ls n → AllByRecursion (λ l. length l ≤ b) ls → n ≤ b → f ≤ b
  first_few [] f [] n s few values = omega arith
  first_few [] f (l ∷ ls) n s few values = absurd s
  first_few (e ∷ es) f [] n s few values = absurd s
  first_few (e ∷ es) f (l ∷ ls) n s few values = omega (arith, s.1.number, few.0)

  stacked_low : (es : List ℕ) (f : ℕ) (ls : List Level) (n : ℕ) → Stacked es f ls n → AllByRecursion (λ e. e ≤ b) es → AllByRecursion (λ l. length l ≤ b) ls → n ≤ b → AllByRecursion (AllByRecursion (AllByRecursion Low)) ls
  stacked_low [] f [] n s extents few values = tt
  stacked_low [] f (l ∷ ls) n s extents few values = absurd s
  stacked_low (e ∷ es) f [] n s extents few values = absurd s
  stacked_low (e ∷ es) f (l ∷ ls) n s extents few values = (
    level_low e f s.0 l s.1 extents.0 (first_few es s.0 ls n s.2 few.1 values),
    stacked_low es s.0 ls n s.2 extents.1 few.1 values,
  )

pub held_payloads : (V : Type 0) → HeldBelow V
held_payloads V zero t s b h extents few values = stacked_low b t.extents 1 s.levels (length s.values) h.stacked extents few values
