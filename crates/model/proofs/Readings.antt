-- The accesses of a tree stand in its expression, each once and in their order. Assumes nothing.
use Rattle.std.proofs.Common.{◌≡◌, ℕ, zero, suc, ◌+◌, ◌<◌, ◌≤◌, Bool, true, false, ◌||◌, List, [], ◌∷◌, ◌++◌, length, sym, refl, ap, ◌∙◌, ap₂, append_assoc, arith, length-append}
use mathlib.Core.Bool.{false≢true}
use Rattle.std.specs.List.{flat_map, AllByRecursion}
use Rattle.std.proofs.lemmas.List.{get_or_append_left, get_or-append-add}
use Rattle.std.proofs.lemmas.Bool.{or_left, or_right}
use Rattle.model.specs.Tensors.{has}
use Rattle.model.specs.Terms.{Access, Expr, operand, product, sum, Parts, last, more, nth_access, no_access, occurs, occurs_in}
use Rattle.model.specs.Grammar.{Tree, access, group, times, plus, text}
use Rattle.model.specs.Reading.{accesses, expression, factors, products, terms_from, accesses_from}
use Rattle.model.specs.Conditions.{tree_vars}
use Rattle.model.proofs.Fit.{Placed, PlacedIn}
use Rattle.model.proofs.Faults.{all_append, all_front, all_back, has_append, or_false}

abbrev pub vars_of : List Access → List ℕ
vars_of acs = flat_map (λ a. a.vars) acs

pub vars_append : (xs ys : List Access) → vars_of (xs ++ ys) ≡ vars_of xs ++ vars_of ys
vars_append [] ys = refl
vars_append (x ∷ xs) ys = ap (λ (l : List ℕ). x.vars ++ l) (vars_append xs ys) ∙ sym (append_assoc x.vars (vars_of xs) (vars_of ys))

-- what holds of each access with its place holds of each access; and of those of each term
module _ (P : Access → Type 0) where
  in_both :
      (p : ℕ) (a b : Tree)
      → (AllByRecursion (λ c. P c.of) (accesses_from p a) → AllByRecursion P (accesses a))
      → (AllByRecursion (λ c. P c.of) (accesses_from (p + length (text a) + 1) b) → AllByRecursion P (accesses b))
      → AllByRecursion (λ c. P c.of) (accesses_from p a ++ accesses_from (p + length (text a) + 1) b) → AllByRecursion P (accesses a ++ accesses b)
  in_both p a b f g h =
      all_append P (accesses a) (accesses b)
      (f (all_front (λ c. P c.of) (accesses_from p a) (accesses_from (p + length (text a) + 1) b) h))
      (g (all_back (λ c. P c.of) (accesses_from p a) (accesses_from (p + length (text a) + 1) b) h))

  pub all_placed : (p : ℕ) (t : Tree) → AllByRecursion (λ a. P a.of) (accesses_from p t) → AllByRecursion P (accesses t)
  all_placed p (access l vs) h = h
  all_placed p (group t) h = all_placed (p + 1) t h
  all_placed p (times a b) h = in_both p a b (all_placed p a) (all_placed (p + length (text a) + 1) b) h
  all_placed p (plus a b) h = in_both p a b (all_placed p a) (all_placed (p + length (text a) + 1) b) h

  pub all_terms : (p : ℕ) (t : Tree) → AllByRecursion P (accesses t) → AllByRecursion (λ u. AllByRecursion P (accesses u.tree)) (terms_from p t)
  all_terms p (access l vs) h = (h, tt)
  all_terms p (group t) h = (h, tt)
  all_terms p (times a b) h = (h, tt)
  all_terms p (plus a b) h =
      all_append (λ u. AllByRecursion P (accesses u.tree)) (terms_from p a) _
      (all_terms p a (all_front P (accesses a) (accesses b) h)) (all_back P (accesses a) (accesses b) h, tt)

-- what is known of the expression of a tree from n on, and of a chain that begins with the tree's factors or products
abbrev pub Known : (Expr → Type 0) → (Parts → Parts → Type 0) → Tree → ℕ → Type 0
Known P Q t n = P (expression t n) × ((ps : Parts) → Q ps (factors t n ps)) × ((ps : Parts) → Q ps (products t n ps))

-- each operand of an expression from n on is one of the accesses there
pub placed_tree :
    (t : Tree) (n m : ℕ) → n + length (accesses t) ≤ m
    → Known (Placed m) (λ ps qs. PlacedIn m ps → PlacedIn m qs) t n
placed_tree (access l vs) n m h = let i : n < m = omega arith in (i, λ ps k. (i, k), λ ps k. (i, k))
placed_tree (group t) n m h = let e = (placed_tree t n m h).0 in (e, λ ps k. (e, k), λ ps k. (e, k))
placed_tree (times a b) n m h =
    let s = length-append (accesses a) (accesses b) in
    let x = placed_tree a n m (omega arith) in
    let y = (placed_tree b (n + length (accesses a)) m (omega arith)).0 in
    (x.1 _ y, λ ps k. x.1 _ (y, k), λ ps k. (x.1 _ y, k))
placed_tree (plus a b) n m h =
    let s = length-append (accesses a) (accesses b) in
    let x = placed_tree a n m (omega arith) in
    let y = (placed_tree b (n + length (accesses a)) m (omega arith)).0 in
    (x.2 _ y, λ ps k. (x.2 _ y, k), λ ps k. x.2 _ (y, k))

-- the accesses that stand in an expression, from left to right
module _ (acs : List Access) where
  abbrev mutual
    pub standing : Expr → List Access
    standing (operand i) = nth_access acs i ∷ []
    standing (product ps) = standing_in ps
    standing (sum ps) = standing_in ps

    pub standing_in : Parts → List Access
    standing_in (last e) = standing e
    standing_in (more e ps) = standing e ++ standing_in ps

  -- xs are the accesses from the nth on
  abbrev pub From : ℕ → List Access → Type 0
  From n xs = (i : ℕ) → i < length xs → nth_access acs (n + i) ≡ nth_access xs i

  pub from_front : (n : ℕ) (xs ys : List Access) → From n (xs ++ ys) → From n xs
  from_front n xs ys h i k =
      let s = length-append xs ys in
      h i (omega arith) ∙ get_or_append_left xs ys no_access i k

  pub from_back : (n : ℕ) (xs ys : List Access) → From n (xs ++ ys) → From (n + length xs) ys
  from_back n xs ys h i k =
      let s = length-append xs ys in
      let e : n + length xs + i ≡ n + (length xs + i) = omega arith in
      ap (nth_access acs) e ∙ h (length xs + i) (omega arith) ∙ get_or-append-add xs ys i no_access

  one_stands : (n : ℕ) (a : Access) → From n (a ∷ []) → nth_access acs n ≡ a
  one_stands n a h = let e : n ≡ n + 0 = omega arith in ap (nth_access acs) e ∙ h 0 (omega arith)

  before : (ps : Parts) {xs ys : List Access} → xs ≡ ys → xs ++ standing_in ps ≡ ys ++ standing_in ps
  before ps e = ap (λ (l : List Access). l ++ standing_in ps) e

  behind : (xs : List Access) (e : Expr) (ps : Parts) {ys : List Access} → standing e ≡ ys → xs ++ standing_in (more e ps) ≡ (xs ++ ys) ++ standing_in ps
  behind xs e ps {ys} q = ap (λ (l : List Access). xs ++ (l ++ standing_in ps)) q ∙ sym (append_assoc xs ys (standing_in ps))

  pub standing_tree :
      (t : Tree) (n : ℕ) → From n (accesses t)
      → Known (λ e. standing e ≡ accesses t) (λ ps qs. standing_in qs ≡ accesses t ++ standing_in ps) t n
  standing_tree (access l vs) n h = let e = ap (λ (b : Access). b ∷ []) (one_stands n _ h) in (e, λ ps. before ps e, λ ps. before ps e)
  standing_tree (group t) n h = let e = (standing_tree t n h).0 in (e, λ ps. before ps e, λ ps. before ps e)
  standing_tree (times a b) n h =
      let x = standing_tree a n (from_front n (accesses a) (accesses b) h) in
      let y = (standing_tree b (n + length (accesses a)) (from_back n (accesses a) (accesses b) h)).0 in
      let e = x.1 (last _) ∙ ap (λ (l : List Access). accesses a ++ l) y in
      (e, λ ps. x.1 (more _ ps) ∙ behind (accesses a) (expression b (n + length (accesses a))) ps y, λ ps. before ps e)
  standing_tree (plus a b) n h =
      let x = standing_tree a n (from_front n (accesses a) (accesses b) h) in
      let y = (standing_tree b (n + length (accesses a)) (from_back n (accesses a) (accesses b) h)).0 in
      let e = x.2 (last _) ∙ ap (λ (l : List Access). accesses a ++ l) y in
      (e, λ ps. before ps e, λ ps. x.2 (more _ ps) ∙ behind (accesses a) (expression b (n + length (accesses a))) ps y)

  -- an expression has the variables of the accesses that stand in it
  mutual
    pub occurs_standing : (v : ℕ) (e : Expr) → occurs acs v e ≡ has (vars_of (standing e)) v
    occurs_standing v (operand i) = sym (has_append (nth_access acs i).vars [] v ∙ or_false (has (nth_access acs i).vars v))
    occurs_standing v (product ps) = occurs_standing_in v ps
    occurs_standing v (sum ps) = occurs_standing_in v ps

    pub occurs_standing_in : (v : ℕ) (ps : Parts) → occurs_in acs v ps ≡ has (vars_of (standing_in ps)) v
    occurs_standing_in v (last e) = occurs_standing v e
    occurs_standing_in v (more e ps) =
        ap₂ ◌||◌ (occurs_standing v e) (occurs_standing_in v ps)
        ∙ sym (ap (λ l. has l v) (vars_append (standing e) (standing_in ps)) ∙ has_append (vars_of (standing e)) (vars_of (standing_in ps)) v)

  pub occurs_tree : (v : ℕ) (t : Tree) (n : ℕ) → From n (accesses t) → occurs acs v (expression t n) ≡ has (tree_vars t) v
  occurs_tree v t n h = occurs_standing v (expression t n) ∙ ap (λ xs. has (vars_of xs) v) (standing_tree t n h).0

pub from_start : (acs : List Access) → From acs 0 acs
from_start acs i h = let e : 0 + i ≡ i = omega arith in ap (nth_access acs) e

-- a variable of the nth access is a variable of the accesses
pub nth_has : (acs : List Access) (i v : ℕ) → has (nth_access acs i).vars v ≡ true → has (vars_of acs) v ≡ true
nth_has [] i v h = absurd (false≢true h)
nth_has (a ∷ acs) zero v h = has_append a.vars (vars_of acs) v ∙ or_left (has a.vars v) (has (vars_of acs) v) h
nth_has (a ∷ acs) (suc i) v h = has_append a.vars (vars_of acs) v ∙ or_right (has a.vars v) (has (vars_of acs) v) (nth_has acs i v h)

-- what holds where some access has a variable, holds where the accesses have it
pub has_some : (acs : List Access) (v : ℕ) (Q : Type 0) → AllByRecursion (λ a. has a.vars v ≡ true → Q) acs → has (vars_of acs) v ≡ true → Q
has_some [] v Q h k = absurd (false≢true k)
has_some (a ∷ acs) v Q h k = go (has a.vars v) refl (sym (has_append a.vars (vars_of acs) v) ∙ k) (has_some acs v Q h.1)
  where
    go : (b : Bool) → has a.vars v ≡ b → (has a.vars v || has (vars_of acs) v) ≡ true → (has (vars_of acs) v ≡ true → Q) → Q
    go true q k' ih = h.0 q
    go false q k' ih = ih (sym (ap (λ b. b || has (vars_of acs) v) q) ∙ k')
