use Rattle.std.proofs.Common.{◌<◌, ◌≤◌, map, length, Some, None, arith}
use Rattle.lines.specs.Given.{slots_of}
use Rattle.lines.specs.Sizes.{sized_of, differs}
use Rattle.lines.specs.declared.accesses.Access.{Access}
use Rattle.lines.proofs.FirstFaults.{checks_at, checks_none}
use Rattle.lines.proofs.extents.first_differing.Goals as goal

pub returns-in-Some : goal.returns-in-Some
returns-in-Some c =
    let h : c.loop-access.access-index < length c.args.accesses.now = omega arith in
    checks_at (λ (e : Access). map (differs (slots_of c.args.slots.now) c.args.text.now c.args.accesses.now) (sized_of (slots_of c.args.slots.now) c.args.text.now e)) c.args.accesses.now _ _ _ c.loop-access.invariant h (Some _) c.in-Some.ensures

pub loop-access-preserved : goal.loop-access-preserved
loop-access-preserved c =
    let h : c.loop-access.access-index < length c.args.accesses.now = omega arith in
    checks_at (λ (e : Access). map (differs (slots_of c.args.slots.now) c.args.text.now c.args.accesses.now) (sized_of (slots_of c.args.slots.now) c.args.text.now e)) c.args.accesses.now _ _ _ c.loop-access.invariant h None c.in_default.ensures

pub returns : goal.returns
returns c =
    let h : length c.args.accesses.now ≤ c.loop-access.access-index = omega arith in
    checks_none (λ (e : Access). map (differs (slots_of c.args.slots.now) c.args.text.now c.args.accesses.now) (sized_of (slots_of c.args.slots.now) c.args.text.now e)) c.args.accesses.now _ _ c.loop-access.invariant h
