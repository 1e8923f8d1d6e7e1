use Rattle.std.proofs.Common.{arith}
use Rattle.rack_lines.proofs.Extents.{of_three}
use Rattle.rack_lines.proofs.seeing.extents_of.Goals as goal

pub returns : goal.returns
returns c =
    let r = c.args.tensor in
    of_three r.rank r.levels c.index-levels-0.result c.index-levels-1.result c.index-levels-2.result (omega arith)
