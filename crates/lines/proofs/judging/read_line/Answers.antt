use Rattle.std.proofs.Common.{take, sym, subst}
use Rattle.reader.specs.declared.parsing.Parsed.{Parsed}
use Rattle.reader.specs.Order.{PartsFirst}
use Rattle.lines.proofs.judging.read_line.Goals as goal

pub returns-clause-ordered : goal.returns-clause-ordered
returns-clause-ordered c = subst (λ (p : Parsed). PartsFirst (take p.arena.len p.arena.nodes)) (sym c.describe-line.ensures.kept) c.in-Ok.ensures.ordered
