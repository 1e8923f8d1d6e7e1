-- What is asked of a STORE, by the arguments of the call, and why it is refused.
use Rattle.std.specs.Prelude.{◌≡◌, ℕ, ◌*◌, Bool, not, ◌||◌, ltb, List, map, length, Some, None, Ok, Err, Result, ◌==◌, nat_lt}
use Rattle.model.specs.Calls.{Request, Fault, no_slot, shape, entry, room}
use Rattle.model.specs.Stores.{Sizes, FormatRules, some_pass, store_fault, sizes_of, positions_used}
use Rattle.slots.specs.Records.{sizes}
use Rattle.slots.specs.declared.records.TensorRecord.{TensorRecord}
use Rattle.plans.specs.declared.fault.StoreFault.{StoreFault}
use Rattle.plans.specs.declared.request.StoreRequest.{StoreRequest}
use Rattle.plans.specs.declared.fault.StoreFault.TheVariants.{Slot, Shape, Entry, Room}

abbrev pub fault_of : StoreFault → Fault
fault_of (Slot n) = no_slot n
fault_of Shape = shape
fault_of (Entry k) = entry k
fault_of Room = room

-- rank above 3; extents or formats not as many as the rank; extent 0 or above 4,096; format above 1; coordinates not rank × entries
abbrev pub wrong_shape : ℕ → List ℕ → List ℕ → List ℕ → ℕ → Bool
wrong_shape rank es fs cs n =
    nat_lt 3 rank || (not (length es == rank) || (not (length fs == rank)
    || (some_pass (λ e. (e == 0) || nat_lt 4096 e) es || (some_pass (λ f. ltb 1 f) fs || not (length cs == rank * n)))))

abbrev pub request : {V : Type 0} → ℕ → ℕ → List ℕ → List ℕ → List ℕ → List V → Request V
request slot rank es fs cs vs = record { slot = slot; rank = rank; extents = es; formats = fs; coordinates = cs; values = vs }

-- the same of a call, whose plain values are read as values
abbrev pub asked : {P V : Type 0} → (P → V) → StoreRequest P → Request V
asked reads r = request r.slot r.rank r.extents.now r.formats.now r.coordinates.now (map reads r.entries.now)

-- the sizes of a rack, of which only those of a slot matter here
abbrev pub slot_sizes : ℕ → ℕ → Sizes
slot_sizes words positions = record { positions = positions; level_words = words; stream_words = 0; stream_values = 0; places = 0 }

-- What is answered to a request: a record of the levels that it would build, or the reason that refuses it.
abbrev pub Planned : {V : Type 0} → Sizes → FormatRules → Request V → Result TensorRecord StoreFault → Type 0
Planned z rules q (Ok t) = (store_fault z rules q ≡ None) × (t.rank ≡ q.rank) × (sizes t ≡ sizes_of rules q) × (t.positions ≡ positions_used rules q)
Planned z rules q (Err f) = store_fault z rules q ≡ Some (fault_of f)
