use Rattle.std.proofs.Common.{◌≡◌, drop}
use Rattle.std.specs.List.{flat_map}
use Rattle.model.specs.Conditions.{extent_in}
use Rattle.lines.specs.Given.{slots_of}
use Rattle.lines.specs.Sizes.{sized_of}
use Rattle.lines.proofs.extents.extent_of.Given as goal

abbrev pub invariant-loop-access : goal.invariant-loop-access
invariant-loop-access l =
    extent_in (flat_map (sized_of (slots_of l.slots) l.text) (drop l.access-index l.accesses)) l.var ≡ extent_in (flat_map (sized_of (slots_of l.slots) l.text) l.accesses) l.var
