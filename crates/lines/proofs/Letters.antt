-- The small letters of a line's text are its variables, in order. Assumes nothing.
use Rattle.std.proofs.Common.{◌≡◌, ℕ, ◌+◌, Bool, true, false, cond, List, [], ◌∷◌, ◌++◌, length, sym, refl, ap, ◌∙◌, arith}
use Rattle.std.specs.List.{flat_map}
use Rattle.std.proofs.lemmas.List.{append-nil}
use Rattle.std.proofs.lemmas.Bool.Decides.{nat_tests}
use Rattle.model.specs.Grammar.{is_var, is_slot, Tree, access, group, times, plus, Syntax, commas, names, args, text, Vars, Grammatical}
use Rattle.model.specs.Reading.{placed_vars, accesses_from, body_place, order_place, placed_accesses}
use Rattle.model.specs.Conditions.{access_vars, left_vars, all_vars, Spells}
use Rattle.lines.specs.Limits.{letters}
use Rattle.lines.proofs.NodeVars.{joined_append}

pub letters_append : (p : ℕ) (v w : List ℕ) → letters p (v ++ w) ≡ letters p v ++ letters (p + length v) w
letters_append p [] w = let e : p ≡ p + 0 = omega arith in ap (λ q. letters q w) e
letters_append p (b ∷ v) w =
    let e : p + 1 + length v ≡ p + length (b ∷ v) = omega arith in
    by (is_var b) (letters_append (p + 1) v w ∙ ap (λ q. letters (p + 1) v ++ letters q w) e)
  where
    by : (x : Bool) → letters (p + 1) (v ++ w) ≡ letters (p + 1) v ++ letters (p + length (b ∷ v)) w → cond x ((p, b) ∷ letters (p + 1) (v ++ w)) (letters (p + 1) (v ++ w)) ≡ cond x ((p, b) ∷ letters (p + 1) v) (letters (p + 1) v) ++ letters (p + length (b ∷ v)) w
    by true h = ap (λ l. (p, b) ∷ l) h
    by false h = h

-- a variable first, and another byte first
var_first : (p b : ℕ) (w : List ℕ) → is_var b ≡ true → letters p (b ∷ w) ≡ (p, b) ∷ letters (p + 1) w
var_first p b w e = ap (λ x. cond x ((p, b) ∷ letters (p + 1) w) (letters (p + 1) w)) e

letters_commas : (p : ℕ) (vs : List ℕ) → Vars vs → letters p (commas vs) ≡ placed_vars (p + 1) vs
letters_commas p [] g = refl
letters_commas p (v ∷ vs) g =
    let e : p + 1 + 1 + 1 ≡ p + 1 + 2 = omega arith in
    var_first (p + 1) v (commas vs) g.0 ∙ ap (λ l. (p + 1, v) ∷ l) (letters_commas (p + 1 + 1) vs g.1 ∙ ap (λ q. placed_vars q vs) e)

pub letters_names : (p : ℕ) (vs : List ℕ) → Vars vs → letters p (names vs) ≡ placed_vars p vs
letters_names p [] g = refl
letters_names p (v ∷ vs) g =
    let e : p + 1 + 1 ≡ p + 2 = omega arith in
    var_first p v (commas vs) g.0 ∙ ap (λ l. (p, v) ∷ l) (letters_commas (p + 1) vs g.1 ∙ ap (λ q. placed_vars q vs) e)

letters_args : (p : ℕ) (vs : List ℕ) → Vars vs → letters p (args vs) ≡ placed_vars (p + 1) vs
letters_args p vs g = letters_append (p + 1) (names vs) (41 ∷ []) ∙ append-nil (letters (p + 1) (names vs)) ∙ letters_names (p + 1) vs g

slot_no_var : (b : ℕ) → is_slot b ≡ true → is_var b ≡ false
slot_no_var b e = grind (arith, nat_tests)

letters_access : (p l : ℕ) (vs : List ℕ) → Grammatical (access l vs) → letters p (text (access l vs)) ≡ placed_vars (p + 2) vs
letters_access p l vs g =
    let e : p + 1 + 1 ≡ p + 2 = omega arith in
    ap (λ x. cond x ((p, l) ∷ letters (p + 1) (args vs)) (letters (p + 1) (args vs))) (slot_no_var l g.0) ∙ letters_args (p + 1) vs g.1 ∙ ap (λ q. placed_vars q vs) e

pub letters_tree : (p : ℕ) (t : Tree) → Grammatical t → letters p (text t) ≡ flat_map access_vars (accesses_from p t)
letters_tree p (access l vs) g = letters_access p l vs g ∙ sym (append-nil (placed_vars (p + 2) vs))
letters_tree p (group t) g = letters_append (p + 1) (text t) (41 ∷ []) ∙ append-nil (letters (p + 1) (text t)) ∙ letters_tree (p + 1) t g
letters_tree p (times a b) g =
    letters_append p (text a) (42 ∷ text b) ∙ ap (λ l. l ++ letters (p + length (text a) + 1) (text b)) (letters_tree p a g.0)
    ∙ ap (λ l. flat_map access_vars (accesses_from p a) ++ l) (letters_tree (p + length (text a) + 1) b g.2) ∙ sym (joined_append access_vars (accesses_from p a) (accesses_from (p + length (text a) + 1) b))
letters_tree p (plus a b) g =
    letters_append p (text a) (43 ∷ text b) ∙ ap (λ l. l ++ letters (p + length (text a) + 1) (text b)) (letters_tree p a g.0)
    ∙ ap (λ l. flat_map access_vars (accesses_from p a) ++ l) (letters_tree (p + length (text a) + 1) b g.1) ∙ sym (joined_append access_vars (accesses_from p a) (accesses_from (p + length (text a) + 1) b))

pub letters_line : (s : List ℕ) (l : Syntax) → Spells s l → letters 0 s ≡ all_vars l
letters_line s l h =
    let body = text l.body ++ (59 ∷ names l.order) in
    let e : 1 + length (args l.left) + 1 ≡ body_place l = omega arith in
    let f : body_place l + length (text l.body) + 1 ≡ order_place l = refl in
    ap (letters 0) (sym h.spelled) ∙ letters_append 1 (args l.left) (61 ∷ body)
    ∙ ap (λ x. x ++ letters (1 + length (args l.left) + 1) body) (letters_args 1 l.left h.formed.left)
    ∙ ap (λ q. left_vars l ++ letters q body) e
    ∙ ap (λ x. left_vars l ++ x) (letters_append (body_place l) (text l.body) (59 ∷ names l.order)
    ∙ ap (λ x. x ++ letters (order_place l) (names l.order)) (letters_tree (body_place l) l.body h.formed.body)
    ∙ ap (λ x. flat_map access_vars (placed_accesses l) ++ x) (letters_names (order_place l) l.order h.formed.order))
