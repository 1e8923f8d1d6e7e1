-- The terms of an accepted line: their accesses, and that each has the left variables. Assumes nothing.
use Rattle.std.proofs.Common.{◌≡◌, ℕ, ◌+◌, ◌<◌, Bool, true, false, not, ◌||◌, eqb, List, [], ◌∷◌, ◌++◌, map, length, None, sym, ap, ◌∙◌, subst, inl, inr, add-zero, add_assoc, zero-add, arith}
use Rattle.std.specs.List.{flat_map, AllByRecursion}
use Rattle.std.proofs.lemmas.List.{append-nil, get_or_append_left, get_or-append-add, length-append}
use Rattle.std.proofs.ByRecursion.{All-append, All-weaker}
use Rattle.std.proofs.lemmas.Bool.{cond-true, cond_both, and_parts, or_cases, or_left, or_right, eqb-true, not-false, false≢true}
use Rattle.model.specs.Tensors.{has}
use Rattle.model.specs.Terms.{Access, Expr, Parts, last, more, no_access, nth_access, occurs, occurs_in, kept, variables}
use Rattle.model.specs.Grammar.{Tree, access, group, times, plus, Syntax, text, spell}
use Rattle.model.specs.Reading.{accesses, expression, factors, products, Placed, terms_from, term_of, body_place}
use Rattle.model.specs.Conditions.{first_fault, all_in, tree_vars, additions, uneven, order_vars, order_checks, wrong_order}
use Rattle.model.proofs.Costs.{joined_append}
use Rattle.model.proofs.Members.{Among, or_assoc, has_append}
use Rattle.model.proofs.Limits.{Right, leftmost_none, all_right, all_front, all_back}

-- the accesses of a tree stand in the list from n on
abbrev Stands : List Access → ℕ → Tree → Type 0
Stands acs n t = (i : ℕ) → i < length (accesses t) → nth_access acs (n + i) ≡ nth_access (accesses t) i

module _ (acs : List Access) (n : ℕ) (xs ys : List Access) (h : (i : ℕ) → i < length (xs ++ ys) → nth_access acs (n + i) ≡ nth_access (xs ++ ys) i) where
  stands_left : (i : ℕ) → i < length xs → nth_access acs (n + i) ≡ nth_access xs i
  stands_left i lt = h i (simp length-append (omega arith)) ∙ get_or_append_left xs ys no_access i lt

  stands_right : (i : ℕ) → i < length ys → nth_access acs (n + length xs + i) ≡ nth_access ys i
  stands_right i lt =
      ap (nth_access acs) (add_assoc n (length xs) i) ∙ h (length xs + i) (simp length-append (omega arith)) ∙ get_or-append-add xs ys i no_access

tree_vars_both : (xs ys : List Access) (v : ℕ) → has (flat_map (λ a. a.vars) (xs ++ ys)) v ≡ (has (flat_map (λ a. a.vars) xs) v || has (flat_map (λ a. a.vars) ys) v)
tree_vars_both xs ys v = ap (λ zs. has zs v) (joined_append (λ (a : Access). a.vars) xs ys) ∙ has_append (flat_map (λ a. a.vars) xs) (flat_map (λ a. a.vars) ys) v

-- an expression has the variables of its tree
module _ (acs : List Access) (v : ℕ) where
  operand_shows : (l : ℕ) (vs : List ℕ) (n : ℕ) → Stands acs n (access l vs) → has (nth_access acs n).vars v ≡ has (vs ++ []) v
  operand_shows l vs n h = ap (λ i. has (nth_access acs i).vars v) (sym (add-zero n)) ∙ ap (λ a. has a.vars v) (h 0 (omega arith)) ∙ ap (λ ws. has ws v) (sym (append-nil vs))

  abbrev vars_of : Tree → Bool
  vars_of t = has (tree_vars t) v

  join_last : {x y : Bool} (a b : Tree) → x ≡ (vars_of a || y) → y ≡ vars_of b → x ≡ vars_of (times a b)
  join_last a b p q = p ∙ ap (λ z. vars_of a || z) q ∙ sym (tree_vars_both (accesses a) (accesses b) v)

  join_more : {x y : Bool} (a b : Tree) (z : Bool) → x ≡ (vars_of a || (y || z)) → y ≡ vars_of b → x ≡ (vars_of (times a b) || z)
  join_more a b z p q =
      p ∙ ap (λ w. vars_of a || (w || z)) q ∙ sym (or_assoc (vars_of a) (vars_of b) z) ∙ ap (λ w. w || z) (sym (tree_vars_both (accesses a) (accesses b) v))

  front : (a b : Tree) (n : ℕ) → Stands acs n (times a b) → Stands acs n a
  front a b n h = stands_left acs n (accesses a) (accesses b) h

  behind : (a b : Tree) (n : ℕ) → Stands acs n (times a b) → Stands acs (n + length (accesses a)) b
  behind a b n h = stands_right acs n (accesses a) (accesses b) h

  abbrev second : Tree → Tree → ℕ → Expr
  second a b n = expression b (n + length (accesses a))

  abbrev In : Parts → Bool
  In ps = occurs_in acs v ps

  mutual
    expression_shows : (t : Tree) (n : ℕ) → Stands acs n t → occurs acs v (expression t n) ≡ vars_of t
    expression_shows (access l vs) n h = operand_shows l vs n h
    expression_shows (group t) n h = expression_shows t n h
    expression_shows (times a b) n h = join_last a b (factors_show a n (last (second a b n)) (front a b n h)) (expression_shows b (n + length (accesses a)) (behind a b n h))
    expression_shows (plus a b) n h = join_last a b (products_show a n (last (second a b n)) (front a b n h)) (expression_shows b (n + length (accesses a)) (behind a b n h))

    factors_show : (t : Tree) (n : ℕ) (ps : Parts) → Stands acs n t → In (factors t n ps) ≡ (vars_of t || In ps)
    factors_show (access l vs) n ps h = ap (λ x. x || In ps) (operand_shows l vs n h)
    factors_show (group t) n ps h = ap (λ x. x || In ps) (expression_shows t n h)
    factors_show (times a b) n ps h = join_more a b (In ps) (factors_show a n (more (second a b n) ps) (front a b n h)) (expression_shows b (n + length (accesses a)) (behind a b n h))
    factors_show (plus a b) n ps h =
        ap (λ x. x || In ps) (join_last a b (products_show a n (last (second a b n)) (front a b n h)) (expression_shows b (n + length (accesses a)) (behind a b n h)))

    products_show : (t : Tree) (n : ℕ) (ps : Parts) → Stands acs n t → In (products t n ps) ≡ (vars_of t || In ps)
    products_show (access l vs) n ps h = ap (λ x. x || In ps) (operand_shows l vs n h)
    products_show (group t) n ps h = ap (λ x. x || In ps) (expression_shows t n h)
    products_show (times a b) n ps h =
        ap (λ x. x || In ps) (join_last a b (factors_show a n (last (second a b n)) (front a b n h)) (expression_shows b (n + length (accesses a)) (behind a b n h)))
    products_show (plus a b) n ps h = join_more a b (In ps) (products_show a n (more (second a b n) ps) (front a b n h)) (expression_shows b (n + length (accesses a)) (behind a b n h))

pub term_shows : (t : Tree) (v : ℕ) → occurs (accesses t) v (expression t 0) ≡ has (tree_vars t) v
term_shows t v = expression_shows (accesses t) v t 0 (λ i h. ap (nth_access (accesses t)) (zero-add i))

has_kept : (p : ℕ → Bool) (xs : List ℕ) (v : ℕ) → p v ≡ true → has xs v ≡ true → has (kept p xs) v ≡ true
has_kept p [] v h g = g
has_kept p (x ∷ xs) v h g =
    elim (or_cases (eqb x v) (has xs v) g) [
      | inl t ↦
          let now : kept p (x ∷ xs) ≡ x ∷ kept p xs = cond-true (p x) (x ∷ kept p xs) (kept p xs) (ap p (eqb-true x v t) ∙ h) in
          ap (λ ys. has ys v) now ∙ or_left (eqb x v) (has (kept p xs) v) t
      | inr t ↦
          let rest = has_kept p xs v h t in
          cond_both (p x) (x ∷ kept p xs) (kept p xs) (λ ys. has ys v ≡ true) (λ e. or_right (eqb x v) (has (kept p xs) v) rest) (λ e. rest)
    ]

among_all : (xs vs : List ℕ) → all_in xs vs ≡ true → Among vs xs
among_all [] vs h = tt
among_all (x ∷ xs) vs h = let both = and_parts (has vs x) (all_in xs vs) h in (both.0, among_all xs vs both.1)

among_has : (xs ys : List ℕ) → Among xs ys → (v : ℕ) → has ys v ≡ true → has xs v ≡ true
among_has xs [] g v h = absurd (false≢true h)
among_has xs (y ∷ ys) g v h = elim (or_cases (eqb y v) (has ys v) h) [ inl t ↦ subst (λ w. has xs w ≡ true) (eqb-true y v t) g.0 | inr t ↦ among_has xs ys g.1 v t ]

all_of_map : {X Y : Type 0} (P : Y → Type 0) (f : X → Y) (xs : List X) → AllByRecursion P (map f xs) → AllByRecursion (λ x. P (f x)) xs
all_of_map P f [] h = tt
all_of_map P f (x ∷ xs) h = (h.0, all_of_map P f xs h.1)

pub all_both : {X : Type 0} (P Q R : X → Type 0) → ((x : X) → P x → Q x → R x) → (xs : List X) → AllByRecursion P xs → AllByRecursion Q xs → AllByRecursion R xs
all_both P Q R f [] g h = tt
all_both P Q R f (x ∷ xs) g h = (f x g.0 h.0, all_both P Q R f xs g.1 h.1)

-- what holds of each access, holds of each access of a term
pub terms_all : (P : Access → Type 0) (p : ℕ) (t : Tree) → AllByRecursion P (accesses t) → AllByRecursion (λ u. AllByRecursion P (accesses u.tree)) (terms_from p t)
terms_all P p (access l vs) h = (h, tt)
terms_all P p (group t) h = (h, tt)
terms_all P p (times a b) h = (h, tt)
terms_all P p (plus a b) h =
    All-append (λ u. AllByRecursion P (accesses u.tree)) (terms_from p a) (record { place = p + length (text a) + 1; tree = b } ∷ [])
    (terms_all P p a (all_front P (accesses a) (accesses b) h)) (all_back P (accesses a) (accesses b) h, tt)

-- a line has the variables of its terms
terms_within : (p : ℕ) (t : Tree) → AllByRecursion (λ u. (v : ℕ) → has (tree_vars u.tree) v ≡ true → has (tree_vars t) v ≡ true) (terms_from p t)
terms_within p (access l vs) = (λ v h. h, tt)
terms_within p (group t) = (λ v h. h, tt)
terms_within p (times a b) = (λ v h. h, tt)
terms_within p (plus a b) =
    let W : Tree → Placed → Type 0 = λ t u. (v : ℕ) → has (tree_vars u.tree) v ≡ true → has (tree_vars t) v ≡ true in
    All-append (W (plus a b)) (terms_from p a) (record { place = p + length (text a) + 1; tree = b } ∷ [])
    (All-weaker (W a) (W (plus a b)) (λ u g v h. tree_vars_both (accesses a) (accesses b) v ∙ or_left (has (tree_vars a) v) (has (tree_vars b) v) (g v h)) (terms_from p a) (terms_within p a))
    (λ v h. tree_vars_both (accesses a) (accesses b) v ∙ or_right (has (tree_vars a) v) (has (tree_vars b) v) h, tt)

-- the loop order has every variable of the line
pub order_has : (l : Syntax) → wrong_order l ≡ None → Among l.order (tree_vars l.body)
order_has l h =
    let checks = order_checks (tree_vars l.body) [] (order_vars l) in
    let end = (length (spell l), not (all_in (tree_vars l.body) l.order)) ∷ [] in
    let last = (all_back Right checks end (all_right (checks ++ end) h)).0 in
    among_all (tree_vars l.body) l.order (not-false (all_in (tree_vars l.body) l.order) last)

-- every term has the left variables, in loop order
pub lefts_in : (l : Syntax) → uneven l ≡ None → wrong_order l ≡ None → AllByRecursion (λ u. Among (variables l.order (term_of u)) l.left) (terms_from (body_place l) l.body)
lefts_in l even ordered =
    let us = terms_from (body_place l) l.body in
    let check : Placed → ℕ × Bool = λ t. (t.place, not (all_in l.left (tree_vars t.tree))) in
    let rights = all_of_map Right check us (all_right (map check us) (leftmost_none (first_fault (additions (body_place l) false l.body)) (first_fault (map check us)) even).1) in
    all_both (λ u. Right (check u)) (λ u. (v : ℕ) → has (tree_vars u.tree) v ≡ true → has (tree_vars l.body) v ≡ true) (λ u. Among (variables l.order (term_of u)) l.left)
    (
    λ u r within. All-weaker (λ v. has (tree_vars u.tree) v ≡ true) (λ v. has (variables l.order (term_of u)) v ≡ true)
    (
    λ v h. has_kept (λ w. occurs (accesses u.tree) w (expression u.tree 0)) l.order v (term_shows u.tree v ∙ h)
    (among_has l.order (tree_vars l.body) (order_has l ordered) v (within v h))
    )
    l.left (among_all l.left (tree_vars u.tree) (not-false (all_in l.left (tree_vars u.tree)) r))
    )
    us rights (terms_within (body_place l) l.body)
