-- Whether the graph of a rack is under way: loaded, and not all of its commands carried out. Assumes nothing.
use Rattle.std.specs.Prelude.{ℕ, Bool, false, not, Some, None, Option, ◌==◌}
use Rattle.rack_state.specs.declared.state.Loaded.{Loaded}

abbrev pub under_way : Option Loaded → ℕ → Bool
under_way None commands = false
under_way (Some p) commands = not (p.done == commands)
