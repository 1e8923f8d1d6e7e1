use Rattle.std.proofs.Common.{◌≡◌, min, take}
use Rattle.docks.specs.Tables.{decimal}
use Rattle.docks.proofs.bytes.capped_decimal.Given as goal

abbrev pub invariant-loop-b : goal.invariant-loop-b
invariant-loop-b l = l.n ≡ min (decimal (take l.b-index l.digits)) 4294967295
