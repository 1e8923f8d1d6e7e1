use Rattle.std.proofs.Common.{◌≡◌, map, drop}
use Rattle.std.specs.List.{flat_map}
use Rattle.model.specs.Conditions.{first_fault}
use Rattle.lines.specs.Given.{slots_of}
use Rattle.lines.specs.Sizes.{sized_of, differs}
use Rattle.lines.proofs.extents.first_differing.Given as goal

abbrev pub invariant-loop-access : goal.invariant-loop-access
invariant-loop-access l =
    first_fault (flat_map (λ e. map (differs (slots_of l.slots) l.text l.accesses) (sized_of (slots_of l.slots) l.text e)) (drop l.access-index l.accesses))
    ≡ first_fault (flat_map (λ e. map (differs (slots_of l.slots) l.text l.accesses) (sized_of (slots_of l.slots) l.text e)) l.accesses)
