use Rattle.std.proofs.Common.{◌<◌, ◌≤◌, length, arith}
use Rattle.lines.specs.Given.{slots_of}
use Rattle.lines.specs.Sizes.{sized_of}
use Rattle.lines.proofs.Sizing.{extent_found, extent_on, extent_none}
use Rattle.lines.proofs.extents.extent_of.Goals as goal

pub returns-in-Some : goal.returns-in-Some
returns-in-Some c =
    let h : c.loop-access.access-index < length c.args.accesses.now = omega arith in
    extent_found (sized_of (slots_of c.args.slots.now) c.args.text.now) c.args.accesses.now _ _ c.args.var _ c.loop-access.invariant h _ c.in-Some.ensures

pub loop-access-preserved : goal.loop-access-preserved
loop-access-preserved c =
    let h : c.loop-access.access-index < length c.args.accesses.now = omega arith in
    extent_on (sized_of (slots_of c.args.slots.now) c.args.text.now) c.args.accesses.now _ _ c.args.var _ c.loop-access.invariant h c.in_default.ensures

pub returns : goal.returns
returns c =
    let h : length c.args.accesses.now ≤ c.loop-access.access-index = omega arith in
    extent_none (sized_of (slots_of c.args.slots.now) c.args.text.now) c.args.accesses.now _ c.args.var _ c.loop-access.invariant h
