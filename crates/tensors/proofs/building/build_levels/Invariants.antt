use Rattle.std.proofs.Common.{◌≡◌, ℕ, List, length}
use Rattle.slots.specs.Records.{sizes}
use Rattle.plans.specs.Rows.{rows_in}
use Rattle.plans.specs.Rooms.{rules_of}
use Rattle.tensors.proofs.Raises.{Standing}
use Rattle.tensors.proofs.building.build_levels.Given as goal

abbrev pub invariant-loop-depth : goal.invariant-loop-depth
invariant-loop-depth g l =
    (fs : List ℕ) × (length fs ≡ length l.plan.extents.now)
    × Standing (rules_of g.S.Formats.wants g.S.Formats.births) g.S.Formats.meaning g.S.Formats.kept (sizes l.plan.tensor) l.plan.extents.now fs
    (rows_in l.plan.rows) l.initial.words l.depth l.start l.owners l.words
