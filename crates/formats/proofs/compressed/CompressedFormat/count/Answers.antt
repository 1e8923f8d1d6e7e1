use Rattle.std.proofs.Common.{◌+◌, ◌-◌, Some, ap, ◌∙◌}
use Rattle.model.specs.Formats.{position}
use Rattle.formats.specs.Rows.{rows_count, rows_count_none}
use Rattle.formats.proofs.compressed.CompressedFormat.count.Goals as goal

pub returns-in_err-len : goal.returns-in_err-len
returns-in_err-len c = c.from_residual.ensures ∙ rows_count_none _ _ _ _ c.in_err-len.ensures

pub returns : goal.returns
returns c =
    let ws = c.args.words.now in
    let s = c.in_ok-len.ensures in
    ap Some s.2 ∙ rows_count c.args.size.fibers (λ p. position ws (p + 1) - position ws p) _ c.args.p s.0
