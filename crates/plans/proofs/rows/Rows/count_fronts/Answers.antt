use Rattle.std.proofs.Common.{◌+◌, not, drop, ◌∙◌, rules, tests, arith}
use Rattle.std.proofs.lemmas.Iterator.{YieldsList-from_range}
use Rattle.std.proofs.lemmas.Iterator.Consumers.{YieldsList-from_filter, count_from_yields_List}
use Rattle.plans.specs.Rows.{rows_in, row_in, next_same}
use Rattle.plans.proofs.Numbers.{fronts_counted}
use Rattle.plans.proofs.rows.Rows.count_fronts.Goals as goal

pub returns : goal.returns
returns c =
    let r = c.args.self.now in
    let d = c.args.depth in
    count_from_yields_List c.filter.result c.count.result c.count.ensures.ran
    (YieldsList-from_filter _ (λ k. not (next_same d (row_in r k) (drop (k + 1) (rows_in r)))) (YieldsList-from_range 0 r.count r.count (cc) (omega arith)) c.filter.ensures.closure (λ x b q k. search (rules, tests)))
    ∙ fronts_counted d r.rank r.count r.coordinates.now c.requires.rising r.count 0 (omega arith)
