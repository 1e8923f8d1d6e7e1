-- The paths that a term's merged coordinates lead along, and what stands at them. Assumes nothing.
use Rattle.std.proofs.Common.{ℕ, ◌+◌, true, cond, List, [], ◌∷◌, map, reverse, length, Some, None, Option}
use Rattle.model.specs.Semirings.{Algebra, total}
use Rattle.model.specs.Fibers.{Fiber, fiber_at, coords, child}
use Rattle.model.specs.Tensors.{Storage, value_at, has}
use Rattle.model.specs.Trees.{Tree, each, gathered}
use Rattle.model.specs.Terms.{Access, Expr, Term, variables, nth_access, occurs}
use Rattle.model.specs.Blocks.{Key, key, in_both, in_either}
use Rattle.model.specs.Running.{nth_level}
use Rattle.model.specs.Lowering.{place}
use Rattle.model.proofs.MergeMeaning.{meant}

-- coordinates, the innermost first
abbrev pub LeafPath : Type 0
LeafPath = List ℕ

-- the children of a fiber, as references
abbrev pub child_references : Fiber → List (Option ℕ)
child_references f = map (λ x. Some x.1) f

module _ {V : Type 0} (K : Algebra V) (T : ℕ → Storage V) (acs : List Access) (body : Expr) where
  -- the reference of an access at a path over variables vs, the innermost first
  abbrev pub node : Access → List ℕ → LeafPath → Option ℕ
  node a [] p = Some 0
  node a (v ∷ vs) [] = None
  node a (v ∷ vs) (c ∷ p) = cond (has a.vars v) (child (fiber_at (nth_level T a.slot (place a.vars v)) (node a vs p)) c) (node a vs p)

  -- the fiber of an access at a path, for the next variable v
  abbrev pub fiber_of : Access → ℕ → List ℕ → LeafPath → Fiber
  fiber_of a v vs p = fiber_at (nth_level T a.slot (place a.vars v)) (node a vs p)

  abbrev pub meet_of : (LeafPath → List ℕ) → (LeafPath → List ℕ) → LeafPath → List ℕ
  meet_of f g p = in_both (f p) (g p)

  abbrev pub join_of : (LeafPath → List ℕ) → (LeafPath → List ℕ) → LeafPath → List ℕ
  join_of f g p = in_either (f p) (g p)

  abbrev pub no_coords : LeafPath → List ℕ
  no_coords p = []

  abbrev pub leaf_coords : ℕ → List ℕ → ℕ → LeafPath → List ℕ
  leaf_coords v vs i p = coords (fiber_of (nth_access acs i) v vs p)

  -- the merged coordinates of v at a path
  abbrev pub live : ℕ → List ℕ → LeafPath → List ℕ
  live v vs = meant meet_of join_of no_coords (occurs acs v) (leaf_coords v vs) body

  -- all paths over vs, as a tree
  abbrev pub tree : (vs : List ℕ) → Tree LeafPath (length vs)
  tree [] = []
  tree (v ∷ vs) = each (λ p. map (λ c. c ∷ p) (live v vs p)) (length vs) (tree vs)

  -- a tree of these paths' shape
  abbrev pub over : {A : Type 0} (vs : List ℕ) → (LeafPath → A) → Tree A (length vs)
  over vs f = each f (length vs) (tree vs)

  -- the value of an access at a path, and of the expression
  abbrev pub load_of : List ℕ → Access → LeafPath → V
  load_of vs a p = value_at K.zero (T a.slot).values (node a vs p)

  abbrev pub value_of : List ℕ → LeafPath → V
  value_of vs = meant (λ f g p. K.product (f p) (g p)) (λ f g p. K.sum (f p) (g p)) (λ p. K.zero) (λ e. true) (λ i. load_of vs (nth_access acs i)) body

  -- the variables left over when the innermost reduced ones are summed; the sums
  abbrev pub rest : List ℕ → List ℕ → List ℕ
  rest left [] = []
  rest left (v ∷ vs) = cond (has left v) (v ∷ vs) (rest left vs)

  abbrev pub sum_of : ℕ → List ℕ → (LeafPath → V) → LeafPath → V
  sum_of v vs f p = total K (map (λ c. f (c ∷ p)) (live v vs p))

  abbrev pub sum_down : (left vs : List ℕ) → (LeafPath → V) → LeafPath → V
  sum_down left [] f = f
  sum_down left (v ∷ vs) f = cond (has left v) f (sum_down left vs (sum_of v vs f))

  -- the entries at the paths over vs, with values f
  abbrev pub entries_at : List ℕ → List ℕ → (LeafPath → V) → List (Key × V)
  entries_at depths vs f = gathered (λ p. (key depths p, f p) ∷ []) (length vs) (tree vs)

-- What a term adds to the table: at each path over the variables left over, the key and the sum.
module _ {V : Type 0} (K : Algebra V) (T : ℕ → Storage V) (left order : List ℕ) (t : Term) where
  abbrev pub over_vars : List ℕ
  over_vars = rest K T t.accesses t.body left (reverse (variables order t))

  abbrev pub entries : List (Key × V)
  entries =
      entries_at K T t.accesses t.body (map (λ v. place (reverse over_vars) v + 1) left) over_vars
      (sum_down K T t.accesses t.body left (reverse (variables order t)) (value_of K T t.accesses t.body (reverse (variables order t))))
