-- A device of the proof: what may come next after a front of a line. No public contract cites it.
use Rattle.std.specs.Prelude.{◌≡◌, ℕ, zero, suc, true, false, cond, List, [], ◌∷◌, ◌==◌}
use Rattle.model.specs.Grammar.{is_var, is_slot}

-- where a reader of a line stands
pub data State : Type 0 where
  start : State
  -- in arguments that q follows: at their bracket, behind it, behind a variable, behind a comma
  bracket : State → State
  first : State → State
  more : State → State
  next : State → State
  equals : State
  -- d brackets are open, and a factor is wanted, or one has just ended
  want : ℕ → State
  have : ℕ → State
  -- behind the semicolon, behind a variable, behind a comma
  tail : State
  tailed : State
  tailing : State
  -- no line begins so
  dead : State

-- what follows a factor: an operator, or what q says of any other byte
abbrev pub after : ℕ → State → ℕ → State
after d q b = cond (b == 42) (want d) (cond (b == 43) (want d) q)

abbrev pub step : State → ℕ → State
step start b = cond (b == 82) (bracket equals) dead
step (bracket q) b = cond (b == 40) (first q) dead
step (first q) b = cond (is_var b) (more q) (cond (b == 41) q dead)
step (more q) b = cond (b == 44) (next q) (cond (b == 41) q dead)
step (next q) b = cond (is_var b) (more q) dead
step equals b = cond (b == 61) (want 0) dead
step (want d) b = cond (is_slot b) (bracket (have d)) (cond (b == 40) (want (suc d)) dead)
step (have zero) b = after zero (cond (b == 59) tail dead) b
step (have (suc d)) b = after (suc d) (cond (b == 41) (have d) dead) b
step tail b = cond (is_var b) tailed dead
step tailed b = cond (b == 44) tailing dead
step tailing b = cond (is_var b) tailed dead
step dead b = dead

abbrev pub run : State → List ℕ → State
run q [] = q
run q (b ∷ w) = run (step q b) w

-- a line does not end so
abbrev pub Open : State → Type 0
Open start = Unit {0}
Open (bracket q) = Unit {0}
Open (first q) = Unit {0}
Open (more q) = Unit {0}
Open (next q) = Unit {0}
Open equals = Unit {0}
Open (want d) = Unit {0}
Open (have d) = Unit {0}
Open tail = ⊥
Open tailed = ⊥
Open tailing = Unit {0}
Open dead = Unit {0}

-- m is a state behind a variable of a list, and n the one behind the comma
pub record Lists : Type 0 where
  pub m : State
  pub n : State
  pub comma : step m 44 ≡ n
  pub var : (v : ℕ) → is_var v ≡ true → step n v ≡ m
  pub other : (v : ℕ) → is_var v ≡ false → step n v ≡ dead
  pub opens : Open n
