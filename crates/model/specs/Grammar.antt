-- The grammar of a line: its trees, how they are written, and where a text stops being the beginning of a line. Assumes nothing.
--
--   line   = "R" args "=" sum ";" [var {"," var}]
--   sum    = prod {"+" prod}
--   prod   = factor {"*" factor}
--   factor = access | "(" sum ")"
--   access = one of A to H, args
--   args   = "(" [var {"," var}] ")"
use Rattle.std.specs.Prelude.{◌≡◌, ℕ, ◌+◌, ◌<◌, ◌≤◌, Bool, true, ◌&&◌, List, [], ◌∷◌, ◌++◌, length, take, nat_le}
use Rattle.std.specs.List.{AllByRecursion}

-- one of a to z, and one of A to H
abbrev pub is_var : ℕ → Bool
is_var b = nat_le 97 b && nat_le b 122

abbrev pub is_slot : ℕ → Bool
is_slot b = nat_le 65 b && nat_le b 72

-- A sum, product or factor as it is written. Repetitions lean to the left: a+b+c is plus (plus a b) c.
pub data Tree : Type 0 where
  access : (letter : ℕ) → (vars : List ℕ) → Tree
  group : Tree → Tree
  times : Tree → Tree → Tree
  plus : Tree → Tree → Tree

pub record Syntax : Type 0 where
  pub left : List ℕ
  pub body : Tree
  pub order : List ℕ

-- {"," var}, [var {"," var}], args. 40 is "(", 41 ")", 42 "*", 43 "+", 44 ",", 59 ";", 61 "=", 82 "R".
abbrev pub commas : List ℕ → List ℕ
commas [] = []
commas (v ∷ vs) = 44 ∷ (v ∷ commas vs)

abbrev pub names : List ℕ → List ℕ
names [] = []
names (v ∷ vs) = v ∷ commas vs

abbrev pub args : List ℕ → List ℕ
args vs = (40 ∷ names vs) ++ (41 ∷ [])

abbrev pub text : Tree → List ℕ
text (access l vs) = l ∷ args vs
text (group t) = (40 ∷ text t) ++ (41 ∷ [])
text (times a b) = text a ++ (42 ∷ text b)
text (plus a b) = text a ++ (43 ∷ text b)

abbrev pub spell : Syntax → List ℕ
spell l = (82 ∷ args l.left) ++ (61 ∷ (text l.body ++ (59 ∷ names l.order)))

-- 0 is a factor, 1 a product of several factors, 2 a sum of several products
abbrev pub height : Tree → ℕ
height (access l vs) = 0
height (group t) = 0
height (times a b) = 1
height (plus a b) = 2

abbrev pub Vars : List ℕ → Type 0
Vars vs = AllByRecursion (λ v. is_var v ≡ true) vs

-- The trees of the grammar: a sum is any of them, a product one of height 1 at most, a factor one of height 0.
abbrev pub Grammatical : Tree → Type 0
Grammatical (access l vs) = (is_slot l ≡ true) × Vars vs
Grammatical (group t) = Grammatical t
Grammatical (times a b) = Grammatical a × (height a ≤ 1) × Grammatical b × (height b ≤ 0)
Grammatical (plus a b) = Grammatical a × Grammatical b × (height b ≤ 1)

pub record WellFormed (l : Syntax) : Type 0 where
  pub left : Vars l.left
  pub body : Grammatical l.body
  pub order : Vars l.order

-- a text is that of a line; some line begins with it
abbrev pub IsLine : List ℕ → Type 0
IsLine s = (l : Syntax) × WellFormed l × (spell l ≡ s)

abbrev pub Begins : List ℕ → Type 0
Begins w = (rest : List ℕ) × IsLine (w ++ rest)

-- The text is no line, and p is the place at fault: the first byte with which no line begins, or the length where the text is
-- only unfinished.
pub record NotGrammar (s : List ℕ) (p : ℕ) : Type 0 where
  pub none : IsLine s → ⊥
  pub within : p ≤ length s
  pub begins : Begins (take p s)
  pub first : p < length s → Begins (take (p + 1) s) → ⊥

-- a text is that of one line only
abbrev pub OneLine : Type 0
OneLine = (l m : Syntax) → WellFormed l → WellFormed m → spell l ≡ spell m → l ≡ m
