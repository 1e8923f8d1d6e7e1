-- What a slot holds after an accepted STORE: the tensor with the levels that were built, and small coordinates and children. Assumes nothing.
use Rattle.std.proofs.Common.{◌≡◌, ℕ, zero, suc, ◌<◌, ◌≤◌, List, [], ◌∷◌, map, length, get_or, take, Some, sym, ap, ◌∙◌, subst, arith}
use Rattle.std.specs.List.{AllByRecursion}
use Rattle.std.proofs.ByRecursion.{All-weaker}
use Rattle.std.proofs.lemmas.List.{length-map, length-take}
use Rattle.model.specs.Fibers.{Level, Lawful}
use Rattle.model.specs.Formats.{LevelSize}
use Rattle.model.specs.Tensors.{Storage, Holds}
use Rattle.model.specs.Calls.{Request}
use Rattle.model.specs.Stores.{Sizes, FormatRules, sizes_of, tensor_of}
use Rattle.model.specs.Books.{Slot, storage_of}
use Rattle.model.proofs.HeldPositions.{held_positions}
use Rattle.model.proofs.HeldPayloads.{held_payloads}
use Rattle.slots.specs.Areas.{SlotState}
use Rattle.slots.specs.Layouts.{part, levels_on, storage}
use Rattle.slots.specs.Records.{sizes, extents}
use Rattle.tensors.specs.Stored.{Accepted}
use Rattle.rack_slots.proofs.Bounds.{Bounded, bounded, built_fibers}

-- what holds of all and of the default holds at every index
all_at : {A : Type 0} (Q : A → Type 0) (d : A) → Q d → (xs : List A) → AllByRecursion Q xs → (i : ℕ) → Q (get_or xs i d)
all_at Q d q [] h i = q
all_at Q d q (x ∷ xs) h zero = h.0
all_at Q d q (x ∷ xs) h (suc i) = all_at Q d q xs h.1 i

abbrev Low : ℕ → ℕ × ℕ → Type 0
Low b x = (x.0 < b) × (x.1 < b)

-- bounds are weaker the larger they are
lower : (a b : ℕ) → a ≤ b → (ls : List Level) → AllByRecursion (AllByRecursion (AllByRecursion (Low a))) ls → AllByRecursion (AllByRecursion (AllByRecursion (Low b))) ls
lower a b h =
    All-weaker (AllByRecursion (AllByRecursion (Low a))) (AllByRecursion (AllByRecursion (Low b)))
    (All-weaker (AllByRecursion (Low a)) (AllByRecursion (Low b)) (All-weaker (Low a) (Low b) (λ x p. (omega (arith, p.0), omega (arith, p.1)))))

-- the slot as the book has it: the tensor that was asked for, and the levels that its words mean
abbrev pub new_slot : {V : Type 0} → FormatRules → (ℕ → LevelSize → List ℕ → Level) → Request V → List ℕ → Slot V
new_slot rules meaning q ws = record { tensor = tensor_of q; levels = levels_on rules meaning (sizes_of rules q) ws }

module _ {P V : Type 0} (rules : FormatRules) (meaning : ℕ → LevelSize → List ℕ → Level) (kept : ℕ → LevelSize → List ℕ → Type 0)
    (zero_value : V) (reads : P → V) (z : Sizes) (q : Request V) (s : SlotState P) (n : ℕ) (t : SlotState P) where
  abbrev words : List ℕ
  words = part q.slot z.level_words t.words

  abbrev values : List P
  values = part q.slot z.positions t.values

  abbrev filled : Slot V
  filled = new_slot rules meaning q words

  module _ (a : Accepted rules meaning kept zero_value reads z q s n t) where
    stored_as : storage rules meaning reads (sizes_of rules q) n words values ≡ storage_of zero_value (Some filled)
    stored_as =
        ap (λ (vs : List V). record { levels = filled.levels; values = vs }) (sym (held_positions V zero_value filled (map reads (take n values)) a.written.holds))

    pub new_held : Holds zero_value (tensor_of q) (storage_of zero_value (Some filled))
    new_held = subst (λ (x : Storage V). Holds zero_value (tensor_of q) x) stored_as a.written.holds

    pub new_kept : storage rules meaning reads (sizes a.tensor) a.tensor.positions words values ≡ storage_of zero_value (Some filled)
    new_kept =
        ap (λ (ls : List (ℕ × LevelSize)). storage rules meaning reads ls a.tensor.positions words values) a.sized
        ∙ ap (λ (m : ℕ). storage rules meaning reads (sizes_of rules q) m words values) a.uses
        ∙ stored_as

    pub new_extents : extents a.tensor ≡ q.extents
    new_extents = ap (map (λ (l : ℕ × LevelSize). l.1.extent)) a.sized ∙ (bounded z rules q a.unopposed).extents

    pub new_low :
        ((i : ℕ) (l : LevelSize) (ws : List ℕ) → kept i l ws → Lawful l.extent l.fibers (rules.children i l) (meaning i l ws))
        → z.positions ≤ 4096 → (l : ℕ) → AllByRecursion (AllByRecursion (Low 0x80000000)) (get_or filled.levels l [])
    new_low lawful few =
        let b : Bounded z rules q = bounded z rules q a.unopposed in
        let vs : List V = map reads (take n values) in
        let used : length vs ≤ 65536 =
        omega (arith, length-map (take n values) reads, length-take n values, a.answer, b.positions) in
        let low = held_payloads V zero_value (tensor_of q) (storage rules meaning reads (sizes_of rules q) n words values) 65536 a.written.holds b.narrow
        (built_fibers 65536 rules meaning kept lawful (sizes_of rules q) words b.few a.written.sound) used in
        all_at (AllByRecursion (AllByRecursion (Low 0x80000000))) [] tt filled.levels (lower 65536 0x80000000 (omega arith) filled.levels low)
