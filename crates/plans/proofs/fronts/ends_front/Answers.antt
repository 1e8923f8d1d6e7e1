use Rattle.std.proofs.Common.{◌≡◌, ◌+◌, not, take, sym, ap, ◌∙◌, arith}
use Rattle.model.specs.Tensors.{same}
use Rattle.plans.specs.Rows.{nth_row}
use Rattle.plans.proofs.Entries.{row_fits}
use Rattle.plans.proofs.Numbers.{next_none, next_row}
use Rattle.plans.proofs.fronts.ends_front.Goals as goal

pub returns-then-k-count : goal.returns-then-k-count
returns-then-k-count c =
    let cs = c.args.coordinates.now in
    sym (ap not (next_none c.args.depth c.args.rank c.args.count cs (nth_row c.args.rank cs c.args.k) c.args.k (omega arith)))

pub row_at-this-requires : goal.row_at-this-requires
row_at-this-requires c = omega (arith, row_fits c.args.rank c.args.count c.args.k (omega arith))

pub row_at-next-requires : goal.row_at-next-requires
row_at-next-requires c = omega (arith, row_fits c.args.rank c.args.count (c.args.k + 1) (omega arith))

pub returns : goal.returns
returns c =
    let r = c.args.rank in
    let d = c.args.depth in
    let cs = c.args.coordinates.now in
    let k = c.args.k in
    let a = c.row_at-this.ensures.0 in
    let b = c.row_at-next.ensures.0 in
    let e : c.is_same.result ≡ same (take d (nth_row r cs k)) (take d (nth_row r cs (k + 1))) = cc in
    ap not (e ∙ sym (next_row d r c.args.count cs (nth_row r cs k) k (omega arith)))
