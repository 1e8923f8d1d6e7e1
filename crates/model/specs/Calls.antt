-- The calls of a rack, their answers, and the numbers that are returned. Assumes nothing.
use Rattle.std.specs.Prelude.{ℕ, List, Option}
use Rattle.model.specs.Conditions.{LineFault, rule_number}
use Rattle.model.specs.Blocks.{Key}

-- What STORE is given: the coordinates stand entry after entry.
pub record Request (V : Type 0) : Type 0 where
  pub slot : ℕ
  pub rank : ℕ
  pub extents : List ℕ
  pub formats : List ℕ
  pub coordinates : List ℕ
  pub values : List V

pub data Call (V : Type 0) : Type 0 where
  STORE : Request V → Call V
  COMPILE : (text : List ℕ) → Call V
  STEP : Call V
  READ : (n : ℕ) → Call V
  DROP : Call V

-- Why a call is refused.
pub data Fault : Type 0 where
  -- a graph is loaded and not drained
  busy : Fault
  -- of STORE: no such slot; sizes or lists that do not fit; an entry out of range or out of order; no room
  no_slot : (slot : ℕ) → Fault
  shape : Fault
  entry : (index : ℕ) → Fault
  room : Fault
  -- of COMPILE
  line : LineFault → Fault
  -- of STEP, READ and DROP: no graph is loaded, all commands are carried out, a command does not fit, not all are carried out
  no_graph : Fault
  drained : Fault
  full : (command : ℕ) → Fault
  not_drained : Fault
  -- of making a rack: a size out of range, or an area too short
  sizes : Fault

-- the number and the place that each returns
abbrev pub returned : Fault → ℕ × ℕ
returned busy = (1, 0)
returned (no_slot n) = (2, n)
returned shape = (3, 0)
returned (entry k) = (4, k)
returned room = (5, 0)
returned (line f) = (rule_number f.rule, f.place)
returned no_graph = (13, 0)
returned drained = (14, 0)
returned (full k) = (15, k)
returned not_drained = (16, 0)
returned sizes = (17, 0)

-- STORE answers the value positions used, COMPILE the number of commands, STEP how many remain, READ an entry of the result or none, DROP the
-- commands carried out.
pub data Answer (V : Type 0) : Type 0 where
  stored : ℕ → Answer V
  compiled : ℕ → Answer V
  stepped : ℕ → Answer V
  listed : Option (Key × V) → Answer V
  dropped : ℕ → Answer V
  refused : Fault → Answer V
