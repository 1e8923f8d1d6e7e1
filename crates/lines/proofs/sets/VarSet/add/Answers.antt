use Rattle.std.proofs.Common.{◌||◌, List, ℕ, sym, ap, subst, ◌∙◌}
use Rattle.model.specs.Tensors.{has}
use Rattle.model.specs.Grammar.{Vars}
use Rattle.reader.specs.Lists.{vars_of}
use Rattle.reader.specs.Walked.{left}
use Rattle.reader.proofs.Having.{bare, bare_placed}
use Rattle.lines.specs.Sets.{in_set}
use Rattle.lines.proofs.Members.{adds_on}
use Rattle.lines.proofs.sets.VarSet.add.Goals as goal

pub loop-var-init : goal.loop-var-init
loop-var-init c = λ vars.
    let start = ap (λ it. bare (left it)) c.into_iter-var-iterator.ensures.into_iter_gives ∙ ap bare c.vars-var-items.ensures ∙ bare_placed c.args.list.place (vars_of c.args.text.now c.args.list) in
    (subst Vars (sym start) vars, λ v is. ap (λ l. has l v || in_set c.args.self.now v) start)

pub loop-var-preserved : goal.loop-var-preserved
loop-var-preserved c = λ vars.
    let now = c.loop-var.invariant vars in
    let here = subst (λ (l : List (ℕ × ℕ)). Vars (bare l)) c.in-Some.ensures.steps now.0 in (
      here.1,
      λ v is. adds_on (bare (left c.next.new.self)) c.in-Some.var c.loop-var.self c.insert.new.self _ v is (c.insert.ensures here.0) (sym (ap (λ l. has (bare l) v || in_set c.loop-var.self v) c.in-Some.ensures.steps) ∙ now.1 v is),
    )
