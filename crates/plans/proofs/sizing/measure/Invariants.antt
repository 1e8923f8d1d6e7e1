use Rattle.plans.specs.Rows.{rows_in}
use Rattle.plans.specs.Rooms.{rules_of}
use Rattle.plans.proofs.Sizings.{Sized}
use Rattle.plans.proofs.sizing.measure.Given as goal

abbrev pub invariant-loop-i : goal.invariant-loop-i
invariant-loop-i g l =
    Sized l.room.level_words l.room.positions (rules_of g.S.Formats.wants g.S.Formats.births)
    (rows_in l.rows) l.extents l.formats l.i l.fibers l.words l.levels
