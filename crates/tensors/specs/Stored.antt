-- What a STORE answers, and what the slots, the level words and the values then are.
use Rattle.std.specs.Prelude.{◌≡◌, ℕ, ◌+◌, ◌*◌, List, length, take, drop, Some, None, Ok, Err, Result, slice_set}
use Rattle.model.specs.Calls.{Request}
use Rattle.model.specs.Fibers.{Level}
use Rattle.model.specs.Formats.{LevelSize}
use Rattle.model.specs.Stores.{Sizes, FormatRules, store_fault, sizes_of, positions_used, tensor_of, entries_of}
use Rattle.model.specs.Tensors.{Tensor, Holds}
use Rattle.slots.specs.Areas.{SlotState}
use Rattle.slots.specs.Layouts.{part, needed, Kept, storage}
use Rattle.slots.specs.Records.{sizes}
use Rattle.slots.specs.declared.records.TensorRecord.{TensorRecord}
use Rattle.plans.specs.Requests.{fault_of}
use Rattle.plans.specs.declared.fault.StoreFault.{StoreFault}

module _ {P V : Type 0} (rules : FormatRules) (meaning : ℕ → LevelSize → List ℕ → Level) (kept : ℕ → LevelSize → List ℕ → Type 0)
    (zero : V) (reads : P → V) where
  -- A tensor in the part of its slot: its levels as BUILD leaves them, holding it with its values. Outside the words that it needs and the n
  -- positions that it uses nothing changes.
  pub record Written (z : Sizes) (slot : ℕ) (ls : List (ℕ × LevelSize)) (n : ℕ) (t : Tensor V) (ws : List ℕ) (vs : List P) (words : List ℕ) (values : List P) : Type 0 where
    pub words_before : take (slot * z.level_words) words ≡ take (slot * z.level_words) ws
    pub words_behind : drop (slot * z.level_words + needed rules ls) words ≡ drop (slot * z.level_words + needed rules ls) ws
    pub values_before : take (slot * z.positions) values ≡ take (slot * z.positions) vs
    pub values_behind : drop (slot * z.positions + n) values ≡ drop (slot * z.positions + n) vs
    pub sound : Kept rules kept ls (part slot z.level_words words)
    pub holds : Holds zero t (storage rules meaning reads ls n (part slot z.level_words words) (part slot z.positions values))

  -- Accepted: the record of this slot is replaced and no other, and the tensor is written; the answer is the positions that it uses.
  pub record Accepted (z : Sizes) (q : Request V) (s : SlotState P) (n : ℕ) (t : SlotState P) : Type 0 where
    pub unopposed : store_fault z rules q ≡ None
    pub answer : n ≡ positions_used rules q
    pub tensor : TensorRecord
    pub ranked : tensor.rank ≡ q.rank
    pub sized : sizes tensor ≡ sizes_of rules q
    pub uses : tensor.positions ≡ n
    pub replaced : t.records ≡ slice_set s.records q.slot (Some tensor)
    pub written : Written z q.slot (sizes_of rules q) n (tensor_of q) s.words s.values t.words t.values

  -- Refused: for the first reason there is, and nothing changes.
  abbrev pub Stored : Sizes → Request V → SlotState P → Result ℕ StoreFault → SlotState P → Type 0
  Stored z q s (Ok n) t = Accepted z q s n t
  Stored z q s (Err f) t = (store_fault z rules q ≡ Some (fault_of f)) × (t ≡ s)

-- a tensor from its extents, the coordinates of its entries, and their values
abbrev pub tensor_at : {V : Type 0} → List ℕ → List ℕ → List V → Tensor V
tensor_at es cs vs = record { extents = es; entries = entries_of (length es) cs vs }
