-- The answers of the code as those of the book. Assumes nothing.
use Rattle.std.specs.Prelude.{take, Ok, Err, Option, Result}
use Rattle.std.specs.Option.{option_map}
use Rattle.model.specs.Blocks.{Key}
use Rattle.model.specs.Calls.{Answer, listed, refused}
use Rattle.results.specs.Keys.{coordinates}
use Rattle.rack_state.specs.declared.calls.Entry.{Entry}
use Rattle.rack_state.specs.declared.calls.Fault.{Fault}
use Rattle.rack_state.specs.Faults.{fault_of}

-- what an accepted call answers, or its refusal
abbrev pub answered : {A V : Type 0} → (A → Answer V) → Result A Fault → Answer V
answered f (Ok x) = f x
answered f (Err e) = refused (fault_of e)

-- an entry of the result: the coordinates of the left variables, and the value
abbrev pub entry_of : {V : Type 0} → Entry V → Key × V
entry_of e = (take e.rank (coordinates e.key), e.value)

abbrev pub entry_listed : {V : Type 0} → Option (Entry V) → Answer V
entry_listed o = listed (option_map entry_of o)
