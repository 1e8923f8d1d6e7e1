use Rattle.std.proofs.Common.{◌+◌, ◌-◌, ◌*◌, ◌≤◌, length}
use Rattle.reader.specs.Parts.{Read, Grown}
use Rattle.reader.proofs.parsing.+factor_prod_sum.Given as goal

-- the bytes left, and among calls at one place the sum before the product before the factor
abbrev pub decreases-factor : goal.decreases-factor
decreases-factor l = 3 * (length l.text.bytes.now - l.at)

abbrev pub decreases-prod : goal.decreases-prod
decreases-prod l = 3 * (length l.text.bytes.now - l.at) + 1

abbrev pub decreases-sum : goal.decreases-sum
decreases-sum l = 3 * (length l.text.bytes.now - l.at) + 2

abbrev pub invariant-prod-factors : goal.invariant-prod-factors
invariant-prod-factors l = Read 1 0 l.text.bytes.now l.at l.arena l.left × Grown l.initial.arena l.initial.left.end l.arena l.left.end × (l.arena.len ≤ l.left.end)

abbrev pub decreases-prod-factors : goal.decreases-prod-factors
decreases-prod-factors l = length l.text.bytes.now - l.left.end

abbrev pub invariant-sum-terms : goal.invariant-sum-terms
invariant-sum-terms l = Read 2 1 l.text.bytes.now l.at l.arena l.left × Grown l.initial.arena l.initial.left.end l.arena l.left.end × (l.arena.len ≤ l.left.end)

abbrev pub decreases-sum-terms : goal.decreases-sum-terms
decreases-sum-terms l = length l.text.bytes.now - l.left.end
