-- The calls and answers of the code as those of the book. Assumes nothing.
use Rattle.std.specs.Prelude.{List, map, Ok, Err, Result}
use Rattle.model.specs.Calls as model
use Rattle.model.specs.Semirings.{zipped}
use Rattle.plans.specs.Requests.{asked}
use Rattle.rack_state.specs.Answered.{entry_listed}
use Rattle.rack_state.specs.Faults.{fault_of}
use Rattle.rack.specs.Courses.{Events}
use Rattle.rack.specs.declared.events.Call.{Call}
use Rattle.rack.specs.declared.events.Call.TheVariants.{Store, Compile, Step, Read, Drop}
use Rattle.rack.specs.declared.events.Done.{Done}
use Rattle.rack.specs.declared.events.Done.TheVariants.{Stored, Compiled, Stepped, Listed, Dropped}
use Rattle.rack_state.specs.declared.calls.Fault.{Fault}

abbrev pub call_of : {P V : Type 0} → (P → V) → Call P → model.Call V
call_of reads (Store r) = model.STORE (asked reads r)
call_of reads (Compile line) = model.COMPILE line.now
call_of reads Step = model.STEP
call_of reads (Read n) = model.READ n
call_of reads Drop = model.DROP

-- what a call did, or why it is refused
abbrev pub Answer : Type 0 → Type 0
Answer V = Result (Done V) Fault

abbrev pub answer_of : {V : Type 0} → Answer V → model.Answer V
answer_of (Ok (Stored n)) = model.stored n
answer_of (Ok (Compiled n)) = model.compiled n
answer_of (Ok (Stepped n)) = model.stepped n
answer_of (Ok (Listed e)) = entry_listed e
answer_of (Ok (Dropped n)) = model.dropped n
answer_of (Err f) = model.refused (fault_of f)

-- calls beside their answers, as far as both go
abbrev pub events : {P V : Type 0} → (P → V) → List (Call P) → List (Answer V) → Events V
events reads cs rs = zipped (λ c a. (call_of reads c, answer_of a)) cs rs
