-- The refusals of the code as those of the table of returned numbers. Assumes nothing.
use Rattle.model.specs.Calls as model
use Rattle.plans.specs.Requests as plans
use Rattle.lines.specs.Faults as lines
use Rattle.rack_state.specs.declared.calls.Fault.{Fault}
use Rattle.rack_state.specs.declared.calls.Fault.TheVariants.{Busy, Store, Line, NoGraph, Drained, Full, NotDrained, Sizes}

abbrev pub fault_of : Fault → model.Fault
fault_of Busy = model.busy
fault_of (Store f) = plans.fault_of f
fault_of (Line f) = model.line (lines.fault_of f)
fault_of NoGraph = model.no_graph
fault_of Drained = model.drained
fault_of (Full k) = model.full k
fault_of NotDrained = model.not_drained
fault_of Sizes = model.sizes
