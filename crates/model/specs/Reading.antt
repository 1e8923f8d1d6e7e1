-- From a line as it is written to the line that is lowered; and where its parts stand in the text. Assumes nothing.
use Rattle.std.specs.Prelude.{ℕ, ◌+◌, ◌-◌, List, [], ◌∷◌, ◌++◌, map, length}
use Rattle.model.specs.Grammar.{Tree, access, group, times, plus, Syntax, args, text}
use Rattle.model.specs.Terms.{Access, Expr, operand, product, sum, Parts, last, more, Term, Line}

-- the accesses of a tree, from left to right
abbrev pub accesses : Tree → List Access
accesses (access l vs) = record { slot = l - 65; vars = vs } ∷ []
accesses (group t) = accesses t
accesses (times a b) = accesses a ++ accesses b
accesses (plus a b) = accesses a ++ accesses b

-- The expression of a tree whose first access has the number n. A chain of factors is one product, a chain of products one sum, and
-- brackets that hold one access show nothing.
abbrev mutual
  pub expression : Tree → ℕ → Expr
  expression (access l vs) n = operand n
  expression (group t) n = expression t n
  expression (times a b) n = product (factors a n (last (expression b (n + length (accesses a)))))
  expression (plus a b) n = sum (products a n (last (expression b (n + length (accesses a)))))

  -- the factors of a, before those behind it
  pub factors : Tree → ℕ → Parts → Parts
  factors (access l vs) n ps = more (operand n) ps
  factors (group t) n ps = more (expression t n) ps
  factors (times a b) n ps = factors a n (more (expression b (n + length (accesses a))) ps)
  factors (plus a b) n ps = more (sum (products a n (last (expression b (n + length (accesses a)))))) ps

  -- the products of a, before those behind it
  pub products : Tree → ℕ → Parts → Parts
  products (access l vs) n ps = more (operand n) ps
  products (group t) n ps = more (expression t n) ps
  products (times a b) n ps = more (product (factors a n (last (expression b (n + length (accesses a)))))) ps
  products (plus a b) n ps = products a n (more (expression b (n + length (accesses a))) ps)

-- a tree that starts at a place of the text
pub record Placed : Type 0 where
  pub place : ℕ
  pub tree : Tree

-- the products of the outer sum, the terms, each with its place
abbrev pub terms_from : ℕ → Tree → List Placed
terms_from p (access l vs) = record { place = p; tree = access l vs } ∷ []
terms_from p (group t) = record { place = p; tree = group t } ∷ []
terms_from p (times a b) = record { place = p; tree = times a b } ∷ []
terms_from p (plus a b) = terms_from p a ++ record { place = p + length (text a) + 1; tree = b } ∷ []

abbrev pub term_of : Placed → Term
term_of t = record { accesses = accesses t.tree; body = expression t.tree 0 }

-- the place where the right side begins, and where the loop order does
abbrev pub body_place : Syntax → ℕ
body_place l = length (args l.left) + 2

abbrev pub order_place : Syntax → ℕ
order_place l = body_place l + length (text l.body) + 1

abbrev pub line_of : Syntax → Line
line_of l = record { left = l.left; terms = map term_of (terms_from (body_place l) l.body); order = l.order }

-- an access with the place of its letter; its variables stand from the second place behind it on, at every other place
pub record PlacedAccess : Type 0 where
  pub place : ℕ
  pub of : Access

abbrev pub accesses_from : ℕ → Tree → List PlacedAccess
accesses_from p (access l vs) = record { place = p; of = record { slot = l - 65; vars = vs } } ∷ []
accesses_from p (group t) = accesses_from (p + 1) t
accesses_from p (times a b) = accesses_from p a ++ accesses_from (p + length (text a) + 1) b
accesses_from p (plus a b) = accesses_from p a ++ accesses_from (p + length (text a) + 1) b

abbrev pub placed_accesses : Syntax → List PlacedAccess
placed_accesses l = accesses_from (body_place l) l.body

-- variables of a list that is written from a place on, each with its place
abbrev pub placed_vars : ℕ → List ℕ → List (ℕ × ℕ)
placed_vars p [] = []
placed_vars p (v ∷ vs) = (p, v) ∷ placed_vars (p + 2) vs
