-- Whether levels find room in a slot.
use Rattle.std.specs.Prelude.{◌≡◌, ℕ, ◌+◌, Bool, true, false, ◌||◌, ltb, List, map, length, Some, None, sum, Option, nat_lt}
use Rattle.slots.specs.Records.{sizes}
use Rattle.slots.specs.declared.records.TensorRecord.{TensorRecord}
use Rattle.model.specs.Formats.{LevelSize}
use Rattle.model.specs.Stores.{FormatRules, some_pass, positions_from}

abbrev pub level_size : ℕ → ℕ → ℕ → LevelSize
level_size extent fibers entries = record { extent = extent; fibers = fibers; entries = entries }

abbrev pub rules_of : (ℕ → LevelSize → ℕ) → (ℕ → LevelSize → ℕ) → FormatRules
rules_of wants births = record { need = wants; children = births }

-- Levels over f fibers behind w words need more than L words, or one of them has over 65,536 children, or the last over P.
abbrev pub crowded : ℕ → ℕ → FormatRules → ℕ → ℕ → List (ℕ × LevelSize) → Bool
crowded L P rules w f ls =
    nat_lt L (w + sum (map (λ l. rules.need l.0 l.1) ls)) || (some_pass (λ l. ltb 65536 (rules.children l.0 l.1)) ls || nat_lt P (positions_from f rules ls))

-- What is answered to levels: a record of them, or none, exactly if they find no room.
abbrev pub Measured : ℕ → ℕ → FormatRules → List (ℕ × LevelSize) → Option TensorRecord → Type 0
Measured L P rules ls None = crowded L P rules 0 1 ls ≡ true
Measured L P rules ls (Some r) = (crowded L P rules 0 1 ls ≡ false) × (r.rank ≡ length ls) × (sizes r ≡ ls) × (r.positions ≡ positions_from 1 rules ls)
