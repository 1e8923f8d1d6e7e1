-- When a rack is made, what it is then, and what becomes of its areas. Assumes nothing.
use Rattle.std.specs.Prelude.{◌≡◌, true, false, replicate, None, Ok, Err, vec_items, Result}
use Rattle.model.specs.Stores.{wrong_sizes}
use Rattle.slots.specs.Areas.{slot_state}
use Rattle.streams.specs.Records.{Empty}
use Rattle.rack_state.specs.declared.areas.Areas.{Areas}
use Rattle.rack_state.specs.declared.areas.RackSizes.{RackSizes}
use Rattle.rack_state.specs.declared.state.RackState.{RackState}
use Rattle.rack_state.specs.Snapshots.{Snapshot, view, sizes_given, lengths}

-- an empty rack of these sizes, over areas that are as they were given
pub record Fresh {P : Type 0} (z : RackSizes) (a : Areas P) (s : Snapshot P) : Type 0 where
  pub sizes : s.sizes ≡ sizes_given z
  pub slots : s.slots ≡ slot_state (replicate 8 None) (vec_items a.level_words) (vec_items a.slot_values)
  pub loaded : s.loaded ≡ None
  pub tapes : Empty s.tapes
  pub words : s.words ≡ vec_items a.stream_words
  pub values : s.values ≡ vec_items a.stream_values
  pub keys : s.keys ≡ vec_items a.keys
  pub sums : s.sums ≡ vec_items a.key_values
  pub count : s.count ≡ 0

-- Refused exactly if a size is out of range or an area too short: then the areas are handed back.
abbrev pub Made : {V S P : Type 0} → RackSizes → Areas P → Result (RackState V S P) (Areas P) → Type 0
Made z a (Ok r) = (wrong_sizes (sizes_given z) (lengths a) ≡ false) × Fresh z a (view r)
Made z a (Err back) = (wrong_sizes (sizes_given z) (lengths a) ≡ true) × (back ≡ a)

-- the areas hold what they held in the rack
pub record Freed {P : Type 0} (s : Snapshot P) (a : Areas P) : Type 0 where
  pub slot_values : vec_items a.slot_values ≡ s.slots.values
  pub level_words : vec_items a.level_words ≡ s.slots.words
  pub words : vec_items a.stream_words ≡ s.words
  pub values : vec_items a.stream_values ≡ s.values
  pub keys : vec_items a.keys ≡ s.keys
  pub sums : vec_items a.key_values ≡ s.sums
