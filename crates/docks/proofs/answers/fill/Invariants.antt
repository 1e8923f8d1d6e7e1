use Rattle.std.proofs.Common.{◌≡◌, ◌++◌, ℕ, map, take, drop}
use Rattle.std.specs.Fn.{FnReturnsAt}
use Rattle.semiring.specs.declared.time.Time.{Time}
use Rattle.docks.specs.declared.dock.Dock.{Dock}
use Rattle.docks.specs.Answers.{row}
use Rattle.docks.specs.Tables.{Entry}
use Rattle.docks.specs.Views.{entry_of}
use Rattle.docks.proofs.answers.fill.Given as goal

abbrev pub invariant-loop-i : goal.invariant-loop-i
invariant-loop-i g l =
    (time_of : Entry → ℕ) → ((d : Dock) (t : Time) → FnReturnsAt g.F.Fn l.leg d t → t.value ≡ time_of (entry_of d))
    → l.out ≡ take l.i (map g.V.Semiring.stored (row g.V.Leg.worth time_of (map entry_of l.docks))) ++ drop l.i l.initial.out
