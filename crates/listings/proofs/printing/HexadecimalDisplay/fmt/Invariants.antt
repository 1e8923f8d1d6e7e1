use Rattle.std.proofs.Common.{◌≡◌, ◌≤◌, length}
use Rattle.listings.proofs.printing.HexadecimalDisplay.fmt.Given as goal

abbrev pub invariant-loop-at : goal.invariant-loop-at
invariant-loop-at g l =
    (goal.iterator-loop-at g).can_next l.at-iterator × (goal.iterator-loop-at g).is_finite l.at-iterator × (l.at-iterator.bytes.now ≡ l.self.0.now)
    × (l.end ≤ length l.self.0.now)
