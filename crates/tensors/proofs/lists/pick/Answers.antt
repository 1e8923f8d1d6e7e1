use Rattle.std.proofs.Common.{◌+◌, ◌++◌, List, map, take, drop, sym, refl, ap, ap₂, ◌∙◌, arith}
use Rattle.std.proofs.lemmas.Bool.{not-true, not-false}
use Rattle.std.proofs.lemmas.List.{length-take, take_more_set}
use Rattle.formats.specs.declared.entry.Entry.{Entry}
use Rattle.plans.specs.Rows.{rows_in}
use Rattle.tensors.specs.Fillings.{picked, pair_of}
use Rattle.tensors.proofs.Picks.{pick_more, pick_again, pick_all}
use Rattle.tensors.proofs.lists.pick.Goals as goal
use Rattle.tensors.proofs.lists.pick.Goals.{then-ends_front, else-ends_front}

pub loop-k-preserved : goal.loop-k-preserved
loop-k-preserved c =
    let r = c.args.rows.now in
    let os = c.args.owners.now in
    let k = c.loop-k.k in
    let all = picked c.args.depth os (rows_in r) in
    let rest = picked c.args.depth (drop (k + 1) os) (drop (k + 1) (rows_in r)) in
    elim c.if-ends_front.branch [
      | then-ends_front w ↦ (
        omega (arith, w.n-is, c.loop-k.invariant.0),
        ap₂ (λ m (z : List Entry). map pair_of (take m z) ++ rest) w.n-is w.entries-is
            ∙ ap (λ (z : List Entry). map pair_of z ++ rest) (take_more_set c.loop-k.entries c.loop-k.n _ (omega arith))
            ∙ pick_more c.args.depth r.rank r.count r.coordinates.now os (sym c.requires.paired) all (take c.loop-k.n c.loop-k.entries) k (omega arith) c.loop-k.invariant.1
            _ refl w.coordinate.ensures (not-true _ (sym c.ends_front.ensures ∙ w.if-ends_front.true)),
      )
      | else-ends_front w ↦ (
        omega (arith, w.n-is, c.loop-k.invariant.0),
        ap₂ (λ m (z : List Entry). map pair_of (take m z) ++ rest) w.n-is w.entries-is
            ∙ pick_again c.args.depth r.rank r.count r.coordinates.now os (sym c.requires.paired) all (take c.loop-k.n c.loop-k.entries) k (omega arith) c.loop-k.invariant.1
            (not-false _ (sym c.ends_front.ensures ∙ w.if-ends_front.false)),
      )
    ]

pub returns-clause-few : goal.returns-clause-few
returns-clause-few c = omega (arith, length-take c.loop-k.n c.loop-k.entries, c.loop-k.invariant.0)

pub returns-clause-entries : goal.returns-clause-entries
returns-clause-entries c =
    pick_all c.args.depth c.args.owners.now (rows_in c.args.rows.now) (picked c.args.depth c.args.owners.now (rows_in c.args.rows.now))
    (take c.loop-k.n c.loop-k.entries) c.loop-k.k (omega arith) c.loop-k.invariant.1
