-- What the readers of bytes and of lists of variables say. Assumes nothing.
use Rattle.std.specs.Prelude.{◌≡◌, ℕ, ◌+◌, ◌<◌, ◌≤◌, Bool, true, false, List, [], ◌∷◌, ◌++◌, length, take, MatchBool, ◌≢◌, slice_index}
use Rattle.model.specs.Grammar.{Tree, commas, names, args, text, height, Vars, Grammatical}
use Rattle.reader.specs.Walk.{State, dead, run, Open}

-- whether b stands at i; whether a byte that is P does
abbrev pub Sees : List ℕ → ℕ → ℕ → Bool → Type 0
Sees s i b r = MatchBool r ((i < length s) × (slice_index s i ≡ b)) (i < length s → slice_index s i ≢ b)

abbrev pub SeesOne : (ℕ → Bool) → List ℕ → ℕ → Bool → Type 0
SeesOne P s i r = MatchBool r ((i < length s) × (P (slice_index s i) ≡ true)) (i < length s → P (slice_index s i) ≡ false)

-- w stands from `at` to e
pub record Spans (s : List ℕ) (at e : ℕ) (w : List ℕ) : Type 0 where
  pub spells : take e s ≡ take at s ++ w
  pub forth : at ≤ e
  pub within : e ≤ length s

-- {"," var} was read, and no comma goes on with it
pub record Rest (s : List ℕ) (at e : ℕ) : Type 0 where
  pub vars : List ℕ
  pub good : Vars vars
  pub spans : Spans s at e (commas vars)
  pub stops : e < length s → slice_index s e ≢ 44

pub record Args (s : List ℕ) (at e : ℕ) : Type 0 where
  pub vars : List ℕ
  pub good : Vars vars
  pub spans : Spans s at e (args vars)

-- "R" args "=" was read
pub record Head (s : List ℕ) (e : ℕ) : Type 0 where
  pub vars : List ℕ
  pub good : Vars vars
  pub spans : Spans s 0 e ((82 ∷ args vars) ++ (61 ∷ []))

-- [var {"," var}] was read, up to the end
pub record Order (s : List ℕ) (at : ℕ) : Type 0 where
  pub vars : List ℕ
  pub good : Vars vars
  pub spans : Spans s at (length s) (names vars)

-- No Q was read from `at`: one begins with what stands up to p, and with the byte there too no line
-- goes on, whichever of the states f it came in.
pub record Failed {I : Type 0} (Q : List ℕ → Type 0) (f : I → State) (s : List ℕ) (at p : ℕ) : Type 0 where
  pub within : p ≤ length s
  pub front : List ℕ
  pub rest : List ℕ
  pub spells : take p s ≡ take at s ++ front
  pub begins : Q (front ++ rest)
  pub seen : List ℕ
  pub longer : take (p + 1) s ≡ take at s ++ seen
  pub opens : (i : I) → Open (run (f i) seen)
  pub stuck : p < length s → (i : I) → run (f i) seen ≡ dead

-- what is read, by its text
abbrev pub ARest : List ℕ → Type 0
ARest w = (vs : List ℕ) × Vars vs × (commas vs ≡ w)

abbrev pub AnArgs : List ℕ → Type 0
AnArgs w = (vs : List ℕ) × Vars vs × (args vs ≡ w)

abbrev pub ATail : List ℕ → Type 0
ATail w = (vs : List ℕ) × Vars vs × (names vs ≡ w)

abbrev pub AHead : List ℕ → Type 0
AHead w = (vs : List ℕ) × Vars vs × ((82 ∷ args vs) ++ (61 ∷ []) ≡ w)

abbrev pub APart : ℕ → List ℕ → Type 0
APart k w = (t : Tree) × Grammatical t × (height t ≤ k) × (text t ≡ w)
