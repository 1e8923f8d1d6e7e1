use Rattle.formats.specs.Rows.{rows_count_tested}
use Rattle.formats.proofs.dense.DenseFormat.count.Goals as goal

pub returns : goal.returns
returns c = rows_count_tested c.args.size.fibers (λ _. c.args.size.extent) _ c.args.p _ c.then_some.ensures
