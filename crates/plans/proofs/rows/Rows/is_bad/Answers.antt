use Rattle.std.proofs.Common.{◌≡◌, ◌-◌, suc, not, ◌||◌, sym, ap, ◌∙◌, ap₂, arith}
use Rattle.model.specs.Running.{before}
use Rattle.model.specs.Stores.{outside, after}
use Rattle.plans.specs.Rows.{row_in, prior_row}
use Rattle.plans.proofs.rows.Rows.is_bad.Goals as goal

pub returns-then-k-gt0 : goal.returns-then-k-gt0
returns-then-k-gt0 c =
    let r = c.args.self.now in
    let this = row_in r c.args.k in
    let next : c.args.k ≡ suc (c.args.k - 1) = omega arith in
    ap not c.comes_before.ensures
    ∙ ap₂ (λ x y. not (before x y)) c.row.ensures.0 c.row-this.ensures.0
    ∙ ap not (sym (ap (λ j. after (prior_row r.rank r.coordinates.now j) this) next))
    ∙ ap (λ t. t || not (after (prior_row r.rank r.coordinates.now c.args.k) this)) (c.if-is_outside.ensures ∙ ap (outside c.args.extents.now) c.row-this.ensures.0)
