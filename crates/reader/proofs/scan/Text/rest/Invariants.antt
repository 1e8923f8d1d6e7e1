use Rattle.std.proofs.Common.{ℕ, ◌-◌, List, length}
use Rattle.model.specs.Grammar.{commas, Vars}
use Rattle.reader.specs.Reader.{Spans}
use Rattle.reader.proofs.scan.Text.rest.Given as goal

abbrev pub invariant-names : goal.invariant-names
invariant-names l = (vs : List ℕ) × Vars vs × Spans l.self.bytes.now l.at l.end (commas vs)

abbrev pub decreases-names : goal.decreases-names
decreases-names l = length l.self.bytes.now - l.end
