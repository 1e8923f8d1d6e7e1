-- What the record of a planned tensor says of its levels.
use Rattle.std.specs.Prelude.{◌≡◌, ℕ, List, length}
use Rattle.model.specs.Stores.{FormatRules, level_sizes}
use Rattle.plans.specs.Rows.{rows_in}
use Rattle.slots.specs.Records.{sizes}
use Rattle.tensors.specs.declared.tensor_plan.TensorPlan.{TensorPlan}

-- the sizes of the levels that the rows ask for, in some formats
abbrev pub Measured : FormatRules → TensorPlan → Type 0
Measured rules p = (fs : List ℕ) × (length fs ≡ length p.extents.now) × (sizes p.tensor ≡ level_sizes rules (rows_in p.rows) 0 1 p.extents.now fs)
