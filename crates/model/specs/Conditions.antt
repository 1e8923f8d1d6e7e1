-- What is asked of a line beyond its grammar: the limits and the conditions, each by its first place at fault. Assumes nothing.
use Rattle.std.specs.Prelude.{◌≡◌, ℕ, suc, ◌+◌, ◌<◌, ◌≤◌, min, Bool, true, false, cond, not, ◌&&◌, ◌||◌, ◌⊎◌, List, [], ◌∷◌, ◌++◌, map, length, drop, Some, None, Option, ◌==◌, nat_lt}
use Rattle.std.specs.List.{flat_map}
use Rattle.model.specs.Tensors.{has, same}
use Rattle.model.specs.Terms.{kept}
use Rattle.model.specs.Grammar.{Tree, access, group, times, plus, Syntax, text, spell, WellFormed, NotGrammar}
use Rattle.model.specs.Reading.{accesses, terms_from, body_place, order_place, PlacedAccess, placed_accesses, placed_vars}

-- What a line sees of the slots: the extents of the tensor in a slot, or none where it is empty.
abbrev pub Slots : Type 0
Slots = ℕ → Option (List ℕ)

-- A check of a place: the place, and whether it is at fault. The first place at fault, and the smallest of several places.
abbrev pub Check : Type 0
Check = ℕ × Bool

abbrev pub first_fault : List Check → Option ℕ
first_fault [] = None
first_fault (c ∷ cs) = cond c.1 (Some c.0) (first_fault cs)

abbrev pub leftmost : Option ℕ → Option ℕ → Option ℕ
leftmost None q = q
leftmost (Some p) None = Some p
leftmost (Some p) (Some q) = Some (min p q)

-- at fault from the nth on
abbrev pub beyond : ℕ → List ℕ → List Check
beyond n ps = map (λ p. (p, true)) (drop n ps)

abbrev pub places : {A : Type 0} → List (ℕ × A) → List ℕ
places xs = map (λ x. x.0) xs

-- Those whose variable is not among the earlier ones.
abbrev pub firsts : List ℕ → List (ℕ × ℕ) → List (ℕ × ℕ)
firsts seen [] = []
firsts seen (x ∷ xs) = cond (has seen x.1) (firsts seen xs) (x ∷ firsts (x.1 ∷ seen) xs)

abbrev pub repeats : List ℕ → Bool
repeats [] = false
repeats (v ∷ vs) = has vs v || repeats vs

-- an access's variables with their places, and all variables of the line
abbrev pub access_vars : PlacedAccess → List (ℕ × ℕ)
access_vars a = placed_vars (a.place + 2) a.of.vars

abbrev pub left_vars : Syntax → List (ℕ × ℕ)
left_vars l = placed_vars 2 l.left

abbrev pub order_vars : Syntax → List (ℕ × ℕ)
order_vars l = placed_vars (order_place l) l.order

abbrev pub all_vars : Syntax → List (ℕ × ℕ)
all_vars l = left_vars l ++ (flat_map access_vars (placed_accesses l) ++ order_vars l)

-- the grouping brackets that open, with how many are then open
abbrev pub openings : ℕ → ℕ → Tree → List (ℕ × ℕ)
openings p d (access l vs) = []
openings p d (group t) = (p, suc d) ∷ openings (p + 1) (suc d) t
openings p d (times a b) = openings p d a ++ openings (p + length (text a) + 1) d b
openings p d (plus a b) = openings p d a ++ openings (p + length (text a) + 1) d b

-- 7: at most 8 accesses, 4 different variables, 3 variables in one pair of argument brackets, 4 grouping brackets open together.
abbrev pub over_limits : Syntax → Option ℕ
over_limits l =
    leftmost (first_fault (beyond 8 (map (λ a. a.place) (placed_accesses l))))
    (
    leftmost (first_fault (beyond 4 (places (firsts [] (all_vars l)))))
    (
    leftmost (first_fault (beyond 3 (places (left_vars l)) ++ flat_map (λ a. beyond 3 (places (access_vars a))) (placed_accesses l)))
    (first_fault (map (λ o. (o.0, nat_lt 4 o.1)) (openings (body_place l) 0 l.body)))
    )
    )

-- 8: an access's slot is filled with a tensor of as many arguments, and no variable is repeated in it, or on the left.
abbrev pub fits_slot : Option (List ℕ) → List ℕ → Bool
fits_slot None vs = false
fits_slot (Some es) vs = length es == length vs

abbrev pub wrong_access : Slots → Syntax → Option ℕ
wrong_access slots l =
    first_fault
    ((0, repeats l.left) ∷ map (λ a. (a.place, not (fits_slot (slots a.of.slot) a.of.vars) || repeats a.of.vars)) (placed_accesses l))

-- 9: products that are added inside brackets have the same variables, and each term has all left variables.
abbrev pub tree_vars : Tree → List ℕ
tree_vars t = flat_map (λ a. a.vars) (accesses t)

abbrev pub all_in : List ℕ → List ℕ → Bool
all_in [] vs = true
all_in (x ∷ xs) vs = has vs x && all_in xs vs

abbrev pub same_vars : List ℕ → List ℕ → Bool
same_vars xs ys = all_in xs ys && all_in ys xs

abbrev pub last_product : Tree → Tree
last_product (access l vs) = access l vs
last_product (group t) = group t
last_product (times a b) = times a b
last_product (plus a b) = b

abbrev pub additions : ℕ → Bool → Tree → List Check
additions p inside (access l vs) = []
additions p inside (group t) = additions (p + 1) true t
additions p inside (times a b) = additions p inside a ++ additions (p + length (text a) + 1) inside b
additions p inside (plus a b) =
    additions p inside a
    ++ ((p + length (text a), inside && not (same_vars (tree_vars (last_product a)) (tree_vars b))) ∷ additions (p + length (text a) + 1) inside b)

abbrev pub uneven : Syntax → Option ℕ
uneven l =
    leftmost (first_fault (additions (body_place l) false l.body))
    (first_fault (map (λ t. (t.place, not (all_in l.left (tree_vars t.tree)))) (terms_from (body_place l) l.body)))

-- 10: a variable has one extent at all accesses.
abbrev pub extents_of : Option (List ℕ) → List ℕ
extents_of None = []
extents_of (Some es) = es

-- a variable in an access, with its place and its extent there
pub record Sized : Type 0 where
  pub place : ℕ
  pub var : ℕ
  pub extent : ℕ

abbrev pub sized_vars : List (ℕ × ℕ) → List ℕ → List Sized
sized_vars [] es = []
sized_vars (v ∷ vs) [] = []
sized_vars (v ∷ vs) (e ∷ es) = record { place = v.0; var = v.1; extent = e } ∷ sized_vars vs es

abbrev pub sized : Slots → Syntax → List Sized
sized slots l = flat_map (λ a. sized_vars (access_vars a) (extents_of (slots a.of.slot))) (placed_accesses l)

-- the extent of a variable at its first access
abbrev pub extent_in : List Sized → ℕ → ℕ
extent_in [] v = 0
extent_in (s ∷ ss) v = cond (s.var == v) s.extent (extent_in ss v)

abbrev pub extent_of : Slots → Syntax → ℕ → ℕ
extent_of slots l v = extent_in (sized slots l) v

abbrev pub other_extent : Slots → Syntax → Option ℕ
other_extent slots l = first_fault (map (λ s. (s.place, not (s.extent == extent_of slots l s.var))) (sized slots l))

-- 11: the loop order has every variable of a term, once, and no other.
abbrev pub order_checks : List ℕ → List ℕ → List (ℕ × ℕ) → List Check
order_checks used seen [] = []
order_checks used seen (x ∷ xs) = (x.0, has seen x.1 || not (has used x.1)) ∷ order_checks used (x.1 ∷ seen) xs

abbrev pub wrong_order : Syntax → Option ℕ
wrong_order l =
    first_fault (order_checks (tree_vars l.body) [] (order_vars l) ++ (length (spell l), not (all_in (tree_vars l.body) l.order)) ∷ [])

-- 12: the variables of an access stand in loop order.
abbrev pub out_of_order : Syntax → Option ℕ
out_of_order l = first_fault (map (λ a. (a.place, not (same (kept (has a.of.vars) l.order) a.of.vars))) (placed_accesses l))

-- What a line can break, with its number.
pub data Rule : Type 0 where
  grammar : Rule
  limits : Rule
  access_rule : Rule
  evenness : Rule
  extents : Rule
  loop_order : Rule
  argument_order : Rule

abbrev pub rule_number : Rule → ℕ
rule_number grammar = 6
rule_number limits = 7
rule_number access_rule = 8
rule_number evenness = 9
rule_number extents = 10
rule_number loop_order = 11
rule_number argument_order = 12

-- Why a line is refused: the rule that it breaks, and the place, that of a byte or the length.
pub record LineFault : Type 0 where
  pub rule : Rule
  pub place : ℕ

abbrev pub or_else : Option ℕ → Rule → Option LineFault → Option LineFault
or_else None r rest = rest
or_else (Some p) r rest = Some (record { rule = r; place = p })

-- What is asked of a grammatical line, tried in this order over the whole line.
abbrev pub judged : Slots → Syntax → Option LineFault
judged slots l =
    or_else (over_limits l) limits
    (
    or_else (wrong_access slots l) access_rule
    (
    or_else (uneven l) evenness
    (or_else (other_extent slots l) extents (or_else (wrong_order l) loop_order (or_else (out_of_order l) argument_order None)))
    )
    )

-- a text of at most 256 bytes is that of a line
pub record Spells (s : List ℕ) (l : Syntax) : Type 0 where
  pub formed : WellFormed l
  pub spelled : spell l ≡ s
  pub short : length s ≤ 256

-- A line is accepted over slots.
abbrev pub Accepts : Slots → List ℕ → Syntax → Type 0
Accepts slots s l = Spells s l × (judged slots l ≡ None)

-- 6: over 256 bytes, or not the grammar.
abbrev pub Ungrammatical : List ℕ → ℕ → Type 0
Ungrammatical s p = ((256 < length s) × (p ≡ 256)) ⊎ ((length s ≤ 256) × NotGrammar s p)

abbrev pub Refuses : Slots → List ℕ → LineFault → Type 0
Refuses slots s f =
    ((f.rule ≡ grammar) × Ungrammatical s f.place) ⊎ ((l : Syntax) × Spells s l × (judged slots l ≡ Some f))

-- What reading a text answers: the line that it is, or why it is refused.
pub data Outcome : Type 0 where
  accepted : Syntax → Outcome
  refused : LineFault → Outcome

abbrev pub Reads : Slots → List ℕ → Outcome → Type 0
Reads slots s (accepted l) = Accepts slots s l
Reads slots s (refused f) = Refuses slots s f

-- No text has two answers.
abbrev pub OneAnswer : Type 0
OneAnswer = (slots : Slots) (s : List ℕ) (a b : Outcome) → Reads slots s a → Reads slots s b → a ≡ b
