-- What a front of a line leaves open. Assumes nothing.
use Rattle.std.proofs.Common.{◌≡◌, ℕ, zero, suc, ◌+◌, ◌<◌, ◌≤◌, true, false, cond, List, [], ◌∷◌, ◌++◌, length, take, drop, sym, refl, ap, ◌∙◌, subst, ⊎_elim, arith, take-append-drop}
use Rattle.std.proofs.lemmas.Bool.Decides.{nat_tests}
use Rattle.std.proofs.str.Laws.{order}
use Rattle.model.specs.Grammar.{is_var, is_slot, Tree, access, group, times, plus, Syntax, commas, names, args, text, spell, Vars, Grammatical, WellFormed, Begins, NotGrammar}
use Rattle.reader.specs.Walk.{State, start, bracket, first, more, next, equals, want, have, tail, tailed, tailing, dead, step, run, Open, Lists}

pub run_append : (q : State) (v w : List ℕ) → run q (v ++ w) ≡ run (run q v) w
run_append q [] w = refl
run_append q (b ∷ v) w = run_append (step q b) v w

-- what follows where a part has led from p to q
pub then : (p q : State) (v w : List ℕ) → run p v ≡ q → run p (v ++ w) ≡ run q w
then p q v w e = run_append p v w ∙ ap (λ x. run x w) e

run_dead : (w : List ℕ) → run dead w ≡ dead
run_dead [] = refl
run_dead (b ∷ w) = run_dead w

pub times_goes : (d : ℕ) → step (have d) 42 ≡ want d
times_goes zero = refl
times_goes (suc d) = refl

pub plus_goes : (d : ℕ) → step (have d) 43 ≡ want d
plus_goes zero = refl
plus_goes (suc d) = refl

var_first : (q : State) (v : ℕ) → is_var v ≡ true → step (first q) v ≡ more q
var_first q v e = ap (λ x. cond x (more q) (cond (lib.Dec.eqb v 41) q dead)) e

pub var_next : (q : State) (v : ℕ) → is_var v ≡ true → step (next q) v ≡ more q
var_next q v e = ap (λ x. cond x (more q) dead) e

pub var_tail : (v : ℕ) → is_var v ≡ true → step tail v ≡ tailed
var_tail v e = ap (λ x. cond x tailed dead) e

pub slot_goes : (d b : ℕ) → is_slot b ≡ true → step (want d) b ≡ bracket (have d)
slot_goes d b e = ap (λ x. cond x (bracket (have d)) (cond (lib.Dec.eqb b 40) (want (suc d)) dead)) e

abbrev pub in_args : State → Lists
in_args q = record { m = more q; n = next q; comma = refl; var = var_next q; other = λ v e. ap (λ x. cond x (more q) dead) e; opens = tt }

abbrev pub in_tail : Lists
in_tail = record { m = tailed; n = tailing; comma = refl; var = λ v e. ap (λ x. cond x tailed dead) e; other = λ v e. ap (λ x. cond x tailed dead) e; opens = tt }

-- where b does not go on
pub no_start : (b : ℕ) → (b ≡ 82 → ⊥) → step start b ≡ dead
no_start b n = grind (arith, nat_tests)

pub no_bracket : (q : State) (b : ℕ) → (b ≡ 40 → ⊥) → step (bracket q) b ≡ dead
no_bracket q b n = grind (arith, nat_tests)

pub no_first : (q : State) (b : ℕ) → is_var b ≡ false → (b ≡ 41 → ⊥) → step (first q) b ≡ dead
no_first q b e n = ap (λ x. cond x (more q) (cond (lib.Dec.eqb b 41) q dead)) e ∙ no b n
  where
    no : (b : ℕ) → (b ≡ 41 → ⊥) → cond (lib.Dec.eqb b 41) q dead ≡ dead
    no b n = grind (arith, nat_tests)

pub no_more : (q : State) (b : ℕ) → (b ≡ 44 → ⊥) → (b ≡ 41 → ⊥) → step (more q) b ≡ dead
no_more q b n m = grind (arith, nat_tests)

pub no_equals : (b : ℕ) → (b ≡ 61 → ⊥) → step equals b ≡ dead
no_equals b n = grind (arith, nat_tests)

pub no_want : (d b : ℕ) → is_slot b ≡ false → (b ≡ 40 → ⊥) → step (want d) b ≡ dead
no_want d b e n = ap (λ x. cond x (bracket (have d)) (cond (lib.Dec.eqb b 40) (want (suc d)) dead)) e ∙ no b n
  where
    no : (b : ℕ) → (b ≡ 40 → ⊥) → cond (lib.Dec.eqb b 40) (want (suc d)) dead ≡ dead
    no b n = grind (arith, nat_tests)

pub no_end : (b : ℕ) → (b ≡ 42 → ⊥) → (b ≡ 43 → ⊥) → (b ≡ 59 → ⊥) → step (have 0) b ≡ dead
no_end b x p c = grind (arith, nat_tests)

pub no_close : (d b : ℕ) → (b ≡ 42 → ⊥) → (b ≡ 43 → ⊥) → (b ≡ 41 → ⊥) → step (have (suc d)) b ≡ dead
no_close d b x p c = grind (arith, nat_tests)

pub no_tail : (b : ℕ) → is_var b ≡ false → step tail b ≡ dead
no_tail b e = ap (λ x. cond x tailed dead) e

pub no_tailed : (b : ℕ) → (b ≡ 44 → ⊥) → step tailed b ≡ dead
no_tailed b n = grind (arith, nat_tests)

-- where whole parts lead
pub by_commas : (l : Lists) (vs : List ℕ) → Vars vs → run l.m (commas vs) ≡ l.m
by_commas l [] g = refl
by_commas l (v ∷ vs) g = ap (λ q. run (step q v) (commas vs)) l.comma ∙ ap (λ q. run q (commas vs)) (l.var v g.0) ∙ by_commas l vs g.1

pub by_names : (q : State) (v : ℕ) (vs : List ℕ) → is_var v ≡ true → Vars vs → run (bracket q) (40 ∷ (v ∷ commas vs)) ≡ more q
by_names q v vs e g = ap (λ x. run x (commas vs)) (var_first q v e) ∙ by_commas (in_args q) vs g

pub by_args : (q : State) (vs : List ℕ) → Vars vs → run (bracket q) (args vs) ≡ q
by_args q [] g = refl
by_args q (v ∷ vs) g = then (bracket q) (more q) (40 ∷ (v ∷ commas vs)) (41 ∷ []) (by_names q v vs g.0 g.1)

pub by_tree : (t : Tree) → Grammatical t → (d : ℕ) → run (want d) (text t) ≡ have d
by_tree (access l vs) g d = ap (λ q. run q (args vs)) (slot_goes d l g.0) ∙ by_args (have d) vs g.1
by_tree (group t) g d = then (want (suc d)) (have (suc d)) (text t) (41 ∷ []) (by_tree t g (suc d))
by_tree (times a b) g d = then (want d) (have d) (text a) (42 ∷ text b) (by_tree a g.0 d) ∙ ap (λ q. run q (text b)) (times_goes d) ∙ by_tree b g.2 d
by_tree (plus a b) g d = then (want d) (have d) (text a) (43 ∷ text b) (by_tree a g.0 d) ∙ ap (λ q. run q (text b)) (plus_goes d) ∙ by_tree b g.1 d

-- a line ends where it may
by_order : (vs : List ℕ) → Vars vs → Open (run tail (names vs)) → ⊥
by_order [] g o = o
by_order (v ∷ vs) g o = subst Open (ap (λ q. run q (commas vs)) (var_tail v g.0) ∙ by_commas in_tail vs g.1) o

by_line : (l : Syntax) → WellFormed l → Open (run start (spell l)) → ⊥
by_line l g o =
    by_order l.order g.order
    (subst Open
    (then start equals (82 ∷ args l.left) (61 ∷ (text l.body ++ (59 ∷ names l.order))) (by_args equals l.left g.left)
    ∙ then (want 0) (have 0) (text l.body) (59 ∷ names l.order) (by_tree l.body g.body 0))
    o)

none_begins : (w : List ℕ) → run start w ≡ dead → Begins w → ⊥
none_begins w e b =
    let l = b.1 in
    by_line l.0 l.1 (subst Open (sym (ap (run start) l.2 ∙ then start dead w b.0 e ∙ run_dead b.0)) tt)

pub refuse : (s : List ℕ) (p : ℕ) → p ≤ length s → Begins (take p s) → (p < length s → run start (take (p + 1) s) ≡ dead) → (length s ≤ p → Open (run start s)) → NotGrammar s p
refuse s p h b stuck cut = record {
  none = λ l. ⊎_elim
      (λ lt. none_begins (take (p + 1) s) (stuck lt) (drop (p + 1) s, (l.0, l.1, l.2 ∙ sym (take-append-drop (p + 1) s))))
      (λ le. by_line l.0 l.1 (subst (λ w. Open (run start w)) (sym l.2) (cut le)))
      (order p (length s));
  within = h;
  begins = b;
  first = λ lt. none_begins (take (p + 1) s) (stuck lt);
}
