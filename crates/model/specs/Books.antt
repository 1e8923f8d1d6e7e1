-- The book of a rack, how calls are written into it, and what they answer by it. Assumes nothing.
use Rattle.std.specs.Prelude.{◌≡◌, ℕ, suc, ◌-◌, Bool, false, cond, not, ◌||◌, List, [], ◌∷◌, ◌++◌, map, length, take, Some, None, MatchBool, Option, ◌==◌, nat_lt}
use Rattle.std.specs.List.{slice_get, range_with_len, flat_map}
use Rattle.std.specs.Option.{option_map}
use Rattle.model.specs.Semirings.{Algebra}
use Rattle.model.specs.Fibers.{Level, fiber}
use Rattle.model.specs.Tensors.{Tensor, dense_value, Storage}
use Rattle.model.specs.Commands.{Command}
use Rattle.model.specs.Blocks.{Key}
use Rattle.model.specs.Running.{State, nothing_yet, run, results, Space, space}
use Rattle.model.specs.Grammar.{Syntax}
use Rattle.model.specs.Reading.{line_of}
use Rattle.model.specs.Lowering.{lowered}
use Rattle.model.specs.Conditions.{Slots, Outcome, accepted, Reads}
use Rattle.model.specs.Conditions
use Rattle.model.specs.Meaning.{Tensors, extents_seen}
use Rattle.model.specs.Calls.{Request, Call, STORE, COMPILE, STEP, READ, DROP, Fault, busy, no_graph, drained, full, not_drained, line, Answer, stored, compiled, stepped, listed, dropped, refused}
use Rattle.model.specs.Stores.{Sizes, FormatRules, tensor_of, store_fault, positions_used}

-- A filled slot: the tensor that was stored, and the fibers of its levels.
pub record Slot (V : Type 0) : Type 0 where
  pub tensor : Tensor V
  pub levels : List Level

-- A graph that is loaded: its line, the slots as they were at COMPILE, and how many commands are carried out.
pub record Loaded (V : Type 0) : Type 0 where
  pub line : Syntax
  pub slots : ℕ → Option (Slot V)
  pub count : ℕ

pub record Book (V : Type 0) : Type 0 where
  pub slots : ℕ → Option (Slot V)
  pub loaded : Option (Loaded V)

-- a new rack: empty slots and no graph
abbrev pub new_book : {V : Type 0} → Book V
new_book = record { slots = λ n. None; loaded = None }

-- The children below the levels, each with the coordinates that lead to it; and the value positions: the dense value at those coordinates.
abbrev pub nodes : List Level → List (ℕ × List ℕ) → List (ℕ × List ℕ)
nodes [] ns = ns
nodes (l ∷ ls) ns = nodes ls (flat_map (λ n. map (λ x. (x.1, n.1 ++ x.0 ∷ [])) (fiber l n.0)) ns)

abbrev pub coordinates_to : List (ℕ × List ℕ) → ℕ → List ℕ
coordinates_to [] q = []
coordinates_to (n ∷ ns) q = cond (n.0 == q) n.1 (coordinates_to ns q)

abbrev pub position_values : {V : Type 0} → V → Slot V → List V
position_values zero s =
    let ns : List (ℕ × List ℕ) = nodes s.levels ((0, []) ∷ []) in
    map (λ q. dense_value zero s.tensor (coordinates_to ns q)) (range_with_len 0 (length ns))

abbrev pub storage_of : {V : Type 0} → V → Option (Slot V) → Storage V
storage_of zero None = record { levels = []; values = [] }
storage_of zero (Some s) = record { levels = s.levels; values = position_values zero s }

abbrev pub tensors_of : {V : Type 0} → (ℕ → Option (Slot V)) → Tensors V
tensors_of slots n = option_map (λ s. s.tensor) (slots n)

-- the graph of a loaded line, the commands that remain, and whether none does
abbrev pub commands_of : {V : Type 0} → Loaded V → List Command
commands_of g = lowered (line_of g.line)

abbrev pub remaining : {V : Type 0} → Loaded V → ℕ
remaining g = length (commands_of g) - g.count

abbrev pub is_drained : {V : Type 0} → Loaded V → Bool
is_drained g = g.count == length (commands_of g)

abbrev pub is_busy : {V : Type 0} → Option (Loaded V) → Bool
is_busy None = false
is_busy (Some g) = not (is_drained g)

-- the streams and the result after k commands of a loaded graph
abbrev pub after_commands : {V : Type 0} → Algebra V → Loaded V → ℕ → State V
after_commands K g k = run K (λ n. storage_of K.zero (g.slots n)) (take k (commands_of g)) nothing_yet

abbrev pub state_of : {V : Type 0} → Algebra V → Loaded V → State V
state_of K g = after_commands K g g.count

-- What the calls answer, for every input. Within a call the refusals are tried in this order.
abbrev pub fits : Sizes → Space → Bool
fits z s = not (nat_lt z.stream_words s.words || (nat_lt z.stream_values s.values || nat_lt z.places s.keys))

abbrev pub or_refused : {V : Type 0} → Option Fault → Answer V → Answer V
or_refused None a = a
or_refused (Some f) a = refused f

abbrev pub compile_answer : {V : Type 0} → Outcome → Answer V
compile_answer (accepted l) = compiled (length (lowered (line_of l)))
compile_answer (Conditions.refused f) = refused (line f)

-- A step is refused as full exactly when the words, values or keys after it would be more than there is room for.
abbrev pub step_answer : {V : Type 0} → Algebra V → Sizes → Option (Loaded V) → Answer V
step_answer K z None = refused no_graph
step_answer K z (Some g) =
    cond (is_drained g) (refused drained)
    (cond (fits z (space (after_commands K g (suc g.count)))) (stepped (remaining g - 1)) (refused (full g.count)))

abbrev pub read_answer : {V : Type 0} → Algebra V → ℕ → Option (Loaded V) → Answer V
read_answer K n None = refused no_graph
read_answer K n (Some g) = cond (is_drained g) (listed (slice_get (results K (state_of K g).table) n)) (refused not_drained)

abbrev pub drop_answer : {V : Type 0} → Option (Loaded V) → Answer V
drop_answer None = refused no_graph
drop_answer (Some g) = dropped g.count

module _ {V : Type 0} (K : Algebra V) (z : Sizes) (rules : FormatRules) where
  abbrev pub Answers : Book V → Call V → Answer V → Type 0
  Answers b (STORE r) a = a ≡ cond (is_busy b.loaded) (refused busy) (or_refused (store_fault z rules r) (stored (positions_used rules r)))
  Answers b (COMPILE s) a =
      MatchBool (is_busy b.loaded) (a ≡ refused busy) ((o : Outcome) × Reads (extents_seen (tensors_of b.slots)) s o × (a ≡ compile_answer o))
  Answers b STEP a = a ≡ step_answer K z b.loaded
  Answers b (READ n) a = a ≡ read_answer K n b.loaded
  Answers b DROP a = a ≡ drop_answer b.loaded

-- How a call is written into the book: its arguments, whether it was accepted and, after STORE, the fibers of the levels that were built. READ and refused
-- calls change nothing.
abbrev pub with_slot : {V : Type 0} → ℕ → Slot V → (ℕ → Option (Slot V)) → ℕ → Option (Slot V)
with_slot n s slots m = cond (n == m) (Some s) (slots m)

abbrev pub advanced : {V : Type 0} → Option (Loaded V) → Option (Loaded V)
advanced None = None
advanced (Some g) = Some (record { line = g.line; slots = g.slots; count = suc g.count })

pub data Written {V : Type 0} (b : Book V) : Call V → Answer V → Book V → Type 0 where
  store : (r : Request V) (n : ℕ) (ls : List Level)
      → Written b (STORE r) (stored n) (record { slots = with_slot r.slot (record { tensor = tensor_of r; levels = ls }) b.slots; loaded = b.loaded })
  compile : (s : List ℕ) (n : ℕ) (l : Syntax) → Reads (extents_seen (tensors_of b.slots)) s (accepted l)
      → Written b (COMPILE s) (compiled n) (record { slots = b.slots; loaded = Some (record { line = l; slots = b.slots; count = 0 }) })
  step : (n : ℕ) → Written b STEP (stepped n) (record { slots = b.slots; loaded = advanced b.loaded })
  read : (n : ℕ) (e : Option (Key × V)) → Written b (READ n) (listed e) b
  drop : (n : ℕ) → Written b DROP (dropped n) (record { slots = b.slots; loaded = None })
  refuse : (c : Call V) (f : Fault) → Written b c (refused f) b
