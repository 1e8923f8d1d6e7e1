use Rattle.std.proofs.Common.{rules, tests, Bool, not, ◌||◌}
use Rattle.std.proofs.lemmas.Iterator.{YieldsList-from_slice, YieldsList-from_zip}
use Rattle.std.proofs.lemmas.Iterator.Search.{all_from_yields_List}
use Rattle.std.proofs.lemmas.Iterator.Consumers.{YieldsList-at}
use Rattle.lines.proofs.Members.{includes_all}
use Rattle.lines.proofs.sets.VarSet.includes.Goals as goal

pub returns : goal.returns
returns c =
    let ours = c.args.self.now.present in
    let theirs = c.args.other.now.present in
    includes_all c.args.other.now c.args.self.now c.all.result
    (all_from_yields_List (λ (p : Bool × Bool). p.0 || not p.1) c.all.new.self _ _ c.all.ensures.ran (YieldsList-from_zip (YieldsList-at c.zip.ensures.first (YieldsList-from_slice ours (cc))) (YieldsList-from_slice theirs (cc))) (λ x b q k. search (rules, tests)))
