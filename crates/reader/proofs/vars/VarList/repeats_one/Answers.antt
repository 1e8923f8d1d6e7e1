use Rattle.std.proofs.Common.{rules, ℕ, eqb, sym, refl, ap, ◌∙◌}
use Rattle.std.proofs.lemmas.Iterator.Search.{any_from_yields_List}
use Rattle.std.proofs.lemmas.Iterator.Consumers.{YieldsList-from_first}
use Rattle.model.specs.Conditions.{repeats}
use Rattle.reader.specs.Lists.{vars_of}
use Rattle.reader.specs.Walked.{left}
use Rattle.reader.proofs.Having.{bare, any_has, bare_placed, repeat_found, repeat_later}
use Rattle.reader.proofs.vars.VarList.repeats_one.Goals as goal

pub vars-init : goal.vars-init
vars-init c = ap (λ xs. repeats (bare xs)) c.vars-later.ensures ∙ ap repeats (bare_placed c.args.self.place (vars_of c.args.text.now c.args.self))

pub returns-then-any : goal.returns-then-any
returns-then-any c =
    let behind = left c.next.new.self in
    let found = any_from_yields_List (λ (x : ℕ × ℕ). eqb x.1 c.in-Some.var) c.any.new.self _ _ c.any.ensures.ran (YieldsList-from_first (λ x. x) left behind refl) (λ x b q k. search rules) in
    repeat_found _ behind _ _ c.vars.invariant c.in-Some.ensures.steps (sym (found ∙ any_has c.in-Some.var behind) ∙ c.if-any.true)

pub vars-preserved : goal.vars-preserved
vars-preserved c =
    let behind = left c.next.new.self in
    let found = any_from_yields_List (λ (x : ℕ × ℕ). eqb x.1 c.in-Some.var) c.any.new.self _ _ c.any.ensures.ran (YieldsList-from_first (λ x. x) left behind refl) (λ x b q k. search rules) in
    repeat_later _ behind _ _ c.vars.invariant c.in-Some.ensures.steps (sym (found ∙ any_has c.in-Some.var behind) ∙ c.if-any.false)
