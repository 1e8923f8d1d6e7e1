-- What an answer of COUNT or AT says of the fibers: what code over any format needs.
use Rattle.std.proofs.Common.{◌≡◌, ℕ, zero, suc, [], ◌∷◌, length, Some, None, Option, unwrap_or, sym, subst, ⊎_elim, arith}
use Rattle.std.proofs.lemmas.List.{get_or_past}
use Rattle.std.proofs.lemmas.Bool.{cases_lt}
use Rattle.model.specs.Fibers.{Level, Lawful, Ascends, coords, fiber, count_of}

-- the count of a fiber, and 0 of one that is not there, is its length
pub counted : (l : Level) (p : ℕ) (o : Option ℕ) (n : ℕ) → o ≡ count_of l p → n ≡ unwrap_or o 0 → n ≡ length (fiber l p)
counted [] p None n e i = i
counted [] p (Some m) n e i = cc
counted (f ∷ l) zero None n e i = cc
counted (f ∷ l) zero (Some m) n e i = cc
counted (f ∷ l) (suc p) o n e i = counted l p o n e i

-- a lawful level ascends in every fiber: past the last there is nothing
pub lawful_ascends : (e f n : ℕ) (l : Level) → Lawful e f n l → (p : ℕ) → Ascends (coords (fiber l p))
lawful_ascends e f n l h p =
    ⊎_elim (h.ascends p) (λ past. subst (λ x. Ascends (coords x)) (sym (get_or_past l p [] (omega (arith, h.number)))) tt) (cases_lt p f)
