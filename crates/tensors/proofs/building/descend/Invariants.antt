use Rattle.std.proofs.Common.{◌≡◌, ℕ, ◌<◌, ◌≤◌, get_or, Some}
use Rattle.model.specs.Fibers.{fiber, child}
use Rattle.levels.specs.Stored.{level_of}
use Rattle.plans.specs.Rows.{row_in}
use Rattle.tensors.proofs.building.descend.Given as goal

-- those before k have gone down, and those from k on have not
abbrev pub invariant-loop-k : goal.invariant-loop-k
invariant-loop-k g l =
    ((q : ℕ) → q < l.k
    → child (fiber (level_of g.S.Formats.meaning l.level) (get_or l.initial.owners q 0)) (get_or (row_in l.rows q) l.depth 0) ≡ Some (get_or l.owners q 0))
    × ((q : ℕ) → l.k ≤ q → get_or l.owners q 0 ≡ get_or l.initial.owners q 0)
