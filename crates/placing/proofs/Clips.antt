-- Levels one behind another in a part of an area, each clipped at the part's end: over plain lists.
use Rattle.std.proofs.Common.{◌≡◌, ℕ, zero, suc, ◌+◌, ◌-◌, ◌*◌, ◌<◌, ◌≤◌, min, List, [], ◌∷◌, map, length, get_or, take, drop, Some, Option, sym, ap, ◌∙◌, subst, ⊎_elim, arith}
use Rattle.std.proofs.lemmas.List.{take_all, take-take, drop_all, drop-take, drop-drop, length-take, get_or-map, get_or-take}
use Rattle.std.proofs.lemmas.List.Sums.{sum_by-cons, sum_by_more, sum-map}
use Rattle.std.proofs.lemmas.Bool.{cases_lt}
use Rattle.model.specs.Fibers.{Level}
use Rattle.model.specs.Formats.{LevelSize}
use Rattle.model.specs.Stores.{FormatRules}
use Rattle.slots.specs.Layouts.{needed, levels_on}
use Rattle.slots.specs.Records.{level_of}
use Rattle.slots.specs.declared.records.LevelRecord.{LevelRecord}
use Rattle.slots.specs.declared.records.TensorRecord.{TensorRecord}
use Rattle.plans.specs.Rooms.{level_size}
use Rattle.placing.specs.Lying.{ValuesAnswer}

-- a front of a front
pub take_least : {X : Type 0} (n m : ℕ) (xs : List X) → take n (take m xs) ≡ take (min n m) xs
take_least n m xs =
    ⊎_elim
    (λ h. take-take n m xs (omega arith) ∙ ap (λ k. take k xs) (let z : n ≡ min n m = omega arith in z))
    (λ h. take_all n (take m xs) (omega (arith, length-take m xs)) ∙ ap (λ k. take k xs) (let z : m ≡ min n m = omega arith in z))
    (cases_lt n m)

-- n places from place b + k of a list on, if those before b + m count
pub clipped : {X : Type 0} (b m k n start end : ℕ) (xs : List X) → start ≡ b + min k m → end ≡ b + min (k + n) m
    → take (end - start) (drop start xs) ≡ take n (drop k (take m (drop b xs)))
clipped b m k n start end xs s e =
    ⊎_elim
    (
    λ h. ap (λ j. take j (drop start xs)) (let z : end - start ≡ min n (m - k) = omega arith in z)
    ∙ ap (λ j. take (min n (m - k)) (drop j xs)) (let z : start ≡ b + k = omega arith in z)
    ∙ ap (take (min n (m - k))) (sym (drop-drop k b xs))
    ∙ sym (take_least n (m - k) (drop k (drop b xs)))
    ∙ ap (take n) (sym (drop-take k (m - k) (drop b xs)) ∙ ap (λ j. drop k (take j (drop b xs))) (let z : k + (m - k) ≡ m = omega arith in z))
    )
    (
    λ h. ap (λ j. take j (drop start xs)) (let z : end - start ≡ 0 = omega arith in z)
    ∙ sym (ap (take n) (drop_all k (take m (drop b xs)) (omega (arith, length-take m (drop b xs)))) ∙ take_all n [] (omega arith))
    )
    (cases_lt k m)

module _ (rules : FormatRules) where
  abbrev need_of : ℕ × LevelSize → ℕ
  need_of l = rules.need l.0 l.1

  pub needed_more : (ls : List (ℕ × LevelSize)) (i k : ℕ) (s : LevelSize) → i < length ls → get_or ls i (0, level_size 0 0 0) ≡ (k, s)
      → needed rules (take (i + 1) ls) ≡ needed rules (take i ls) + rules.need k s
  needed_more ls i k s h is =
      sum-map need_of (take (i + 1) ls) ∙ sum_by_more need_of ls i (0, level_size 0 0 0) h
      ∙ ap (λ n. n + need_of (get_or ls i (0, level_size 0 0 0))) (sym (sum-map need_of (take i ls)))
      ∙ ap (λ x. needed rules (take i ls) + need_of x) is

  -- the level at i, on its words behind those of the levels before it
  pub level_on : (meaning : ℕ → LevelSize → List ℕ → Level) (ls : List (ℕ × LevelSize)) (ws : List ℕ) (i k : ℕ) (s : LevelSize)
      → i < length ls → get_or ls i (0, level_size 0 0 0) ≡ (k, s)
      → get_or (levels_on rules meaning ls ws) i [] ≡ meaning k s (take (rules.need k s) (drop (needed rules (take i ls)) ws))
  level_on meaning [] ws i k s h is = absurd (omega arith)
  level_on meaning (l ∷ ls) ws zero k s h is = ap (λ x. meaning x.0 x.1 (take (need_of x) ws)) is
  level_on meaning (l ∷ ls) ws (suc i) k s h is =
      level_on meaning ls (drop (need_of l) ws) i k s (omega arith) is
      ∙ ap (λ x. meaning k s (take (rules.need k s) x))
      (drop-drop (needed rules (take i ls)) (need_of l) ws ∙ ap (λ n. drop n ws) (sym (sum_by-cons (λ x. x) (need_of l) (map need_of (take i ls)))))

-- the level that a record has at i
pub record_at : (ls : List LevelRecord) (rank i : ℕ) (d : LevelRecord) → i < rank → rank ≤ length ls
    → get_or (map level_of (take rank ls)) i (0, level_size 0 0 0) ≡ level_of (get_or ls i d)
record_at ls rank i d h long =
    get_or-map level_of (take rank ls) i d (0, level_size 0 0 0) (omega (arith, length-take rank ls)) ∙ ap level_of (get_or-take rank ls i d h)

-- what is answered of a tensor's values
pub values_lie : (X : Type 0) (size slot start used : ℕ) (o : Option TensorRecord) (t : TensorRecord) → Some t ≡ o → start ≡ slot * size → used ≡ min t.positions size → start + size ≤ 8 * size
    → ValuesAnswer X size slot o (Some (record { start = start; end = start + used }))
values_lie X size slot start used o t is starts least fits =
    let n = t.positions in
    let long : start + used - start ≡ min n size = omega arith in
    subst (λ u. ValuesAnswer X size slot u (Some (record { start = start; end = start + used }))) is
    record {
      starts = starts;
      ends = ap (λ k. start + k) least;
      ordered = omega arith;
      within = omega arith;
      reads = λ vs. ap (λ k. take k (drop start vs)) long ∙ ap (λ k. take (min n size) (drop k vs)) starts ∙ sym (take_least n size (drop (slot * size) vs));
    }
