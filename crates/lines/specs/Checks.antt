-- The conditions of single accesses, as they are tried on the entries of the table. Assumes nothing.
use Rattle.std.specs.Prelude.{ℕ, not, ◌||◌, List, [], ◌∷◌, ◌++◌, length}
use Rattle.model.specs.Tensors.{has, same}
use Rattle.model.specs.Terms.{kept}
use Rattle.model.specs.Reading.{PlacedAccess}
use Rattle.model.specs.Conditions.{Slots, Check, fits_slot, repeats, all_in, order_checks}
use Rattle.lines.specs.declared.accesses.Access.{Access}
use Rattle.reader.specs.declared.vars.VarList.{VarList}
use Rattle.reader.specs.Lists.{vars_of, placed_of}
use Rattle.lines.specs.Tables.{stood_for}

abbrev pub misfit_check : Slots → PlacedAccess → Check
misfit_check slots a = (a.place, not (fits_slot (slots a.of.slot) a.of.vars) || repeats a.of.vars)

abbrev pub misfit : Slots → List ℕ → Access → Check
misfit slots s e = misfit_check slots (stood_for s e)

-- the checks of a loop order over the variables us, which ends the text
abbrev pub order_faults : List ℕ → List ℕ → VarList → List Check
order_faults us s order =
    order_checks us [] (placed_of s order) ++ (length s, not (all_in us (vars_of s order))) ∷ []

abbrev pub unordered_check : List ℕ → PlacedAccess → Check
unordered_check order a = (a.place, not (same (kept (has a.of.vars) order) a.of.vars))

abbrev pub unordered : List ℕ → List ℕ → Access → Check
unordered order s e = unordered_check order (stood_for s e)

-- those that are left, with their places, behind variables of the order, which are known
abbrev pub order_left : List ℕ → List ℕ → List (ℕ × ℕ) → List ℕ → VarList → List Check
order_left us known left s order = order_checks us known left ++ (length s, not (all_in us (vars_of s order))) ∷ []
