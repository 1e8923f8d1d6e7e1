-- A text is that of one tree only: a machine builds the tree back from its text. Assumes nothing.
use Rattle.std.proofs.Common.{◌≡◌, ℕ, ◌≤◌, cond, eqb, List, [], ◌∷◌, ◌++◌, Some, None, Option, sym, refl, ap, ◌∙◌, arith}
use Rattle.std.proofs.lemmas.List.{append-nil, append_assoc}
use Rattle.model.specs.Grammar.{is_var, is_slot, Tree, access, group, times, plus, commas, args, text, height, Vars, Grammatical}

-- a tree behind the product, or the sum, before it
abbrev multiplied : Option Tree → Tree → Tree
multiplied None t = t
multiplied (Some p) t = times p t

abbrev added : Option Tree → Tree → Tree
added None t = t
added (Some s) t = plus s t

-- the brackets that are open, each with the sum and the product before it
data Brackets : Type 0 where
  outermost : Brackets
  inside : Brackets → Option Tree → Option Tree → Brackets

-- A factor is wanted or read; then an access as far as its letter, its bracket, a variable, a comma. Each holds the sum and the product
-- before it.
data State : Type 0 where
  want : Brackets → Option Tree → Option Tree → State
  have : Brackets → Option Tree → Tree → State
  letter : Brackets → Option Tree → Option Tree → ℕ → State
  first : Brackets → Option Tree → Option Tree → ℕ → State
  more : Brackets → Option Tree → Option Tree → ℕ → List ℕ → State
  next : Brackets → Option Tree → Option Tree → ℕ → List ℕ → State
  dead : State

abbrev close : Brackets → Tree → State
close outermost t = dead
close (inside c s p) t = have c s (multiplied p (group t))

abbrev step : State → ℕ → State
step (want c s p) b = cond (is_slot b) (letter c s p b) (cond (eqb b 40) (want (inside c s p) None None) dead)
step (have c s q) b = cond (eqb b 42) (want c s (Some q)) (cond (eqb b 43) (want c (Some (added s q)) None) (cond (eqb b 41) (close c (added s q)) dead))
step (letter c s p l) b = cond (eqb b 40) (first c s p l) dead
step (first c s p l) b = cond (is_var b) (more c s p l (b ∷ [])) (cond (eqb b 41) (have c s (multiplied p (access l []))) dead)
step (more c s p l us) b = cond (eqb b 44) (next c s p l us) (cond (eqb b 41) (have c s (multiplied p (access l us))) dead)
step (next c s p l us) b = cond (is_var b) (more c s p l (us ++ (b ∷ []))) dead
step dead b = dead

abbrev run : State → List ℕ → State
run q [] = q
run q (b ∷ w) = run (step q b) w

run_append : (q : State) (v w : List ℕ) → run q (v ++ w) ≡ run (run q v) w
run_append q [] w = refl
run_append q (b ∷ v) w = run_append (step q b) v w

then : (p q : State) (v w : List ℕ) → run p v ≡ q → run p (v ++ w) ≡ run q w
then p q v w e = run_append p v w ∙ ap (λ x. run x w) e

by_commas : (c : Brackets) (s p : Option Tree) (l : ℕ) (us vs : List ℕ) → Vars vs → run (more c s p l us) (commas vs) ≡ more c s p l (us ++ vs)
by_commas c s p l us [] g = ap (more c s p l) (sym (append-nil us))
by_commas c s p l us (v ∷ vs) g =
    ap (λ x. run (cond x (more c s p l (us ++ (v ∷ []))) dead) (commas vs)) g.0
    ∙ by_commas c s p l (us ++ (v ∷ [])) vs g.1 ∙ ap (more c s p l) (append_assoc us (v ∷ []) vs)

by_args : (c : Brackets) (s p : Option Tree) (l : ℕ) (vs : List ℕ) → Vars vs → run (letter c s p l) (args vs) ≡ have c s (multiplied p (access l vs))
by_args c s p l [] g = refl
by_args c s p l (v ∷ vs) g =
    then (letter c s p l) (more c s p l (v ∷ vs)) (40 ∷ (v ∷ commas vs)) (41 ∷ [])
    (ap (λ x. run (cond x (more c s p l (v ∷ [])) (cond (eqb v 41) (have c s (multiplied p (access l []))) dead)) (commas vs)) g.0 ∙ by_commas c s p l (v ∷ []) vs g.1)

by_access : (c : Brackets) (s p : Option Tree) (l : ℕ) (vs : List ℕ) → Grammatical (access l vs) → run (want c s p) (text (access l vs)) ≡ have c s (multiplied p (access l vs))
by_access c s p l vs g =
    ap (λ x. run (cond x (letter c s p l) (cond (eqb l 40) (want (inside c s p) None None) dead)) (args vs)) g.0 ∙ by_args c s p l vs g.1

-- the sum t was read
abbrev Summed : Tree → Type 0
Summed t = (c : Brackets) → (s : Option Tree) × (q : Tree) × (run (want c None None) (text t) ≡ have c s q) × (added s q ≡ t)

by_group : (c : Brackets) (s p : Option Tree) (t : Tree) → Summed t → run (want c s p) (text (group t)) ≡ have c s (multiplied p (group t))
by_group c s p t h =
    let r = h (inside c s p) in
    then (want (inside c s p) None None) (have (inside c s p) r.0 r.1) (text t) (41 ∷ []) r.2 ∙ ap (λ x. have c s (multiplied p (group x))) r.3

by_times : (c : Brackets) (s : Option Tree) (a b : Tree) → run (want c s None) (text a) ≡ have c s a → run (want c s (Some a)) (text b) ≡ have c s (times a b) → run (want c s None) (text (times a b)) ≡ have c s (times a b)
by_times c s a b e f = then (want c s None) (have c s a) (text a) (42 ∷ text b) e ∙ f

mutual
  by_factor : (t : Tree) → Grammatical t → height t ≤ 0 → (c : Brackets) (s p : Option Tree) → run (want c s p) (text t) ≡ have c s (multiplied p t)
  by_factor (access l vs) g h c s p = by_access c s p l vs g
  by_factor (group t) g h c s p = by_group c s p t (by_sum t g)
  by_factor (times a b) g h c s p = absurd (omega arith)
  by_factor (plus a b) g h c s p = absurd (omega arith)

  by_prod : (t : Tree) → Grammatical t → height t ≤ 1 → (c : Brackets) (s : Option Tree) → run (want c s None) (text t) ≡ have c s t
  by_prod (access l vs) g h c s = by_access c s None l vs g
  by_prod (group t) g h c s = by_group c s None t (by_sum t g)
  by_prod (times a b) g h c s = by_times c s a b (by_prod a g.0 g.1 c s) (by_factor b g.2 g.3 c s (Some a))
  by_prod (plus a b) g h c s = absurd (omega arith)

  by_sum : (t : Tree) → Grammatical t → Summed t
  by_sum (access l vs) g c = (None, access l vs, by_access c None None l vs g, refl)
  by_sum (group t) g c = (None, group t, by_group c None None t (by_sum t g), refl)
  by_sum (times a b) g c = (None, times a b, by_times c None a b (by_prod a g.0 g.1 c None) (by_factor b g.2 g.3 c None (Some a)), refl)
  by_sum (plus a b) g c =
      let r = by_sum a g.0 c in (
        Some a,
        b,
        then (want c None None) (have c r.0 r.1) (text a) (43 ∷ text b) r.2 ∙ ap (λ x. run (want c (Some x) None) (text b)) r.3 ∙ by_prod b g.1 g.2 c (Some a),
        refl,
      )

abbrev value : State → Tree
value (want c s p) = access 0 []
value (have c s q) = added s q
value (letter c s p l) = access 0 []
value (first c s p l) = access 0 []
value (more c s p l us) = access 0 []
value (next c s p l us) = access 0 []
value dead = access 0 []

back : (t : Tree) → Grammatical t → value (run (want outermost None None) (text t)) ≡ t
back t g = let r = by_sum t g outermost in ap value r.2 ∙ r.3

pub one_tree : (t u : Tree) → Grammatical t → Grammatical u → text t ≡ text u → t ≡ u
one_tree t u g h e = sym (back t g) ∙ ap (λ w. value (run (want outermost None None) w)) e ∙ back u h
