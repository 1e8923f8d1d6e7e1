use Rattle.std.proofs.Common.{length}
use Rattle.docks.proofs.Sofar.{Sofar}
use Rattle.docks.specs.Views.{entries}
use Rattle.docks.proofs.reading.read_table.Given as goal

abbrev pub invariant-loop-rest : goal.invariant-loop-rest
invariant-loop-rest l = Sofar (entries l.table) l.rest l.text

abbrev pub decreases-loop-rest : goal.decreases-loop-rest
decreases-loop-rest l = length l.rest
