-- What follows where levels and values hold a tensor: which values they are, and how small coordinates and children are. Assumes nothing.
use Rattle.std.specs.Prelude.{◌≡◌, ℕ, ◌<◌, ◌≤◌, List, length}
use Rattle.std.specs.List.{AllByRecursion}
use Rattle.model.specs.Tensors.{Tensor, Storage, Holds}
use Rattle.model.specs.Books.{Slot, position_values}

-- Whatever values hold a slot's tensor below its levels are the value positions that are computed from the slot.
abbrev pub Positions : Type 0 → Type 0
Positions V =
    (zero : V) (s : Slot V) (vs : List V) → Holds zero s.tensor (record { levels = s.levels; values = vs })
    → position_values zero s ≡ vs

-- Where extents, fibers of a level and value positions are b at most, the coordinates and children of all levels are below b.
abbrev pub HeldBelow : Type 0 → Type 0
HeldBelow V =
    (zero : V) (t : Tensor V) (s : Storage V) (b : ℕ) → Holds zero t s
    → AllByRecursion (λ e. e ≤ b) t.extents → AllByRecursion (λ l. length l ≤ b) s.levels → length s.values ≤ b
    → AllByRecursion (AllByRecursion (AllByRecursion (λ x. (x.0 < b) × (x.1 < b)))) s.levels
