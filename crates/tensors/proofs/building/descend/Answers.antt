use Rattle.std.proofs.Common.{◌≡◌, ℕ, get_or, set, Some, Option, unwrap_or, sym, ap, ◌∙◌, ap₂, arith, below_more}
use Rattle.std.proofs.lemmas.List.{get_or-set_same, get_or-set_other}
use Rattle.model.specs.Fibers.{fiber, child}
use Rattle.levels.specs.Stored.{level_of}
use Rattle.plans.specs.Rows.{row_in}
use Rattle.tensors.proofs.building.descend.Goals as goal

-- what is answered is the child that is there
answered : (o x : Option ℕ) (v j : ℕ) → o ≡ x → v ≡ unwrap_or o 0 → x ≡ Some j → x ≡ Some v
answered o x v j e u h = h ∙ ap Some (sym (u ∙ ap (λ y. unwrap_or y 0) (e ∙ h)))

pub loop-k-preserved : goal.loop-k-preserved
loop-k-preserved g c =
    let l = level_of g.S.Formats.meaning c.args.level in
    let r = c.args.rows.now in
    let k = c.loop-k.k in
    let os = c.loop-k.owners in
    let v = c.unwrap_or.result in
    let was = c.loop-k.invariant.1 k (omega arith) in
    let step = ap₂ (λ p x. child (fiber l p) x) was c.coordinate.ensures in (
      below_more (λ q. child (fiber l (get_or c.args.owners.now q 0)) (get_or (row_in r q) c.args.depth 0) ≡ Some (get_or (set os k v) q 0)) k
          (λ q h. c.loop-k.invariant.0 q h ∙ ap Some (sym (get_or-set_other os k q v 0 (λ e. omega arith))))
          (answered c.find.result _ v (c.requires.held k (omega arith)).0 (c.find.ensures.exact (c.requires.ascends (get_or os k 0)) ∙ step) c.unwrap_or.ensures (c.requires.held k (omega arith)).1
          ∙ ap Some (sym (get_or-set_same os k v 0 (omega arith)))),
      λ q h. get_or-set_other os k q v 0 (λ e. omega arith) ∙ c.loop-k.invariant.1 q (omega arith),
    )
