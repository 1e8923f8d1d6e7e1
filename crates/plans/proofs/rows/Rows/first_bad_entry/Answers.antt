use Rattle.std.proofs.Common.{not, ◌||◌, sym, ◌∙◌, rules, tests, arith}
use Rattle.std.proofs.lemmas.Iterator.{YieldsList-from_range}
use Rattle.std.proofs.lemmas.Iterator.Search.{find_from_yields_List}
use Rattle.std.proofs.lemmas.Iterator.Adapters.{option_map_id}
use Rattle.model.specs.Stores.{outside, after}
use Rattle.plans.specs.Rows.{row_in, prior_row}
use Rattle.plans.proofs.Entries.{faults_found}
use Rattle.plans.proofs.rows.Rows.first_bad_entry.Goals as goal

pub returns : goal.returns
returns c =
    let r = c.args.self.now in
    let es = c.args.extents.now in
    sym (option_map_id c.find.result)
    ∙ find_from_yields_List (λ k. outside es (row_in r k) || not (after (prior_row r.rank r.coordinates.now k) (row_in r k))) _ _ c.find.result c.find.ensures.ran
    (YieldsList-from_range 0 r.count r.count (cc) (omega arith)) (λ x b q k. search (rules, tests))
    ∙ faults_found es r.rank r.count r.coordinates.now r.count 0 (omega arith)
