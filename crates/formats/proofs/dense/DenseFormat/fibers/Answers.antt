use Rattle.std.proofs.Common.{sym}
use Rattle.formats.specs.Rows.{rows_number}
use Rattle.formats.proofs.dense.DenseFormat.fibers.Goals as goal

pub returns : goal.returns
returns c = sym (rows_number _ _ _)
