use Rattle.std.proofs.Common.{◌-◌, ◌^◌, ◌<◌, ◌≤◌, length}
use Rattle.model.specs.Fibers.{Ascends, coords, fiber}
use Rattle.levels.specs.Stored.{level_of}
use Rattle.levels.proofs.Halves.{Left}
use Rattle.levels.proofs.stored.StoredLevel.find.Given as goal

abbrev pub invariant-loop-low : goal.invariant-loop-low
invariant-loop-low g l =
    let xs = fiber (level_of g.S.Formats.meaning l.self) l.p in
    (l.high < 2 ^ 32) × (l.high ≤ length xs) × (Ascends (coords xs) → Left xs l.c l.low l.high)

abbrev pub decreases-loop-low : goal.decreases-loop-low
decreases-loop-low g l = l.high - l.low
