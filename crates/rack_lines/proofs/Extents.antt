-- The extents of three levels, of which the first so many count. Assumes nothing.
use Rattle.std.proofs.Common.{◌≡◌, ℕ, List, [], ◌∷◌, map, length, get_or, take, ap, ◌∙◌, arith}
use Rattle.std.proofs.lemmas.List.{take-map}
use Rattle.model.specs.Formats.{LevelSize}
use Rattle.slots.specs.Records.{level_of}
use Rattle.slots.specs.declared.records.LevelRecord.{LevelRecord}

-- the first n of three levels
pub of_three : (n : ℕ) (ls : List LevelRecord) (x y z : LevelRecord) → length ls ≡ 3
    → take n ((get_or ls 0 x).size.extent ∷ (get_or ls 1 y).size.extent ∷ (get_or ls 2 z).size.extent ∷ []) ≡ map (λ l. l.1.extent) (map level_of (take n ls))
of_three n [] x y z h = absurd (omega arith)
of_three n (a ∷ []) x y z h = absurd (omega arith)
of_three n (a ∷ b ∷ []) x y z h = absurd (omega arith)
of_three n (a ∷ b ∷ c ∷ []) x y z h =
    let all = a ∷ b ∷ c ∷ [] in
    take-map (λ (l : ℕ × LevelSize). l.1.extent) n (map level_of all) ∙ ap (map (λ l. l.1.extent)) (take-map level_of n all)
of_three n (a ∷ b ∷ c ∷ d ∷ ls) x y z h = absurd (omega arith)
