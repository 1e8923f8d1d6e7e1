-- The extents of variables, as they are looked up in the table. Assumes nothing.
use Rattle.std.specs.Prelude.{ℕ, cond, not, List, [], ◌∷◌, Some, None, Option, ◌==◌}
use Rattle.std.specs.List.{flat_map}
use Rattle.model.specs.Conditions.{Slots, Check, Sized, sized_vars, extents_of, extent_in}
use Rattle.lines.specs.declared.accesses.Access.{Access}
use Rattle.reader.specs.Lists.{placed_of}

-- the variables of an access with their places and extents
abbrev pub sized_of : Slots → List ℕ → Access → List Sized
sized_of slots s e = sized_vars (placed_of s e.vars) (extents_of (slots e.slot))

-- the extent of the first that is a variable, if any
abbrev pub first_extent : List Sized → ℕ → Option ℕ
first_extent [] v = None
first_extent (z ∷ zs) v = cond (z.var == v) (Some z.extent) (first_extent zs v)

abbrev pub differs : Slots → List ℕ → List Access → Sized → Check
differs slots s es z = (z.place, not (z.extent == extent_in (flat_map (sized_of slots s) es) z.var))
