use Rattle.std.proofs.Common.{◌<◌, ◌≤◌, length, Some, None, ap, ◌∙◌, arith}
use Rattle.std.specs.List.{flat_map}
use Rattle.std.specs.Option.{option_or}
use Rattle.model.specs.Conditions.{first_fault}
use Rattle.lines.specs.Limits.{crowded}
use Rattle.lines.specs.declared.accesses.Access.{Access}
use Rattle.lines.proofs.FirstFaults.{checks_at, checks_none}
use Rattle.lines.proofs.limits.fourth_argument.Goals as goal

pub returns-in-Some-fourth : goal.returns-in-Some-fourth
returns-in-Some-fourth c =
    let h : c.loop-access.access-index < length c.args.accesses.now = omega arith in
    let crowds = λ (e : Access). crowded c.args.text.now e.vars in
    checks_at crowds c.args.accesses.now _ _ _ c.loop-access.invariant h (Some _) c.in-Some-fourth.ensures ∙ ap (λ o. option_or o (first_fault (flat_map crowds c.args.accesses.now))) c.in_default.ensures

pub loop-access-preserved : goal.loop-access-preserved
loop-access-preserved c =
    let h : c.loop-access.access-index < length c.args.accesses.now = omega arith in
    checks_at (λ (e : Access). crowded c.args.text.now e.vars) c.args.accesses.now _ _ _ c.loop-access.invariant h None c.in_default-fourth.ensures

pub returns : goal.returns
returns c =
    let h : length c.args.accesses.now ≤ c.loop-access.access-index = omega arith in
    let crowds = λ (e : Access). crowded c.args.text.now e.vars in
    checks_none crowds c.args.accesses.now _ _ c.loop-access.invariant h ∙ ap (λ o. option_or o (first_fault (flat_map crowds c.args.accesses.now))) c.in_default.ensures
