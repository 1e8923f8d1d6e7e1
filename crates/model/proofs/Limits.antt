-- What acceptance says of a line's size. Assumes nothing.
use Rattle.std.proofs.Common.{◌≡◌, ℕ, suc, ◌+◌, ◌≤◌, true, false, ltb, List, [], ◌∷◌, ◌++◌, map, length, drop, Some, None, Option, sym, refl, ap, ◌∙◌, subst, inl, inr, arith}
use Rattle.std.specs.List.{flat_map, AllByRecursion}
use Rattle.std.proofs.lemmas.List.{length-drop, length-map, map-append}
use Rattle.std.proofs.ByRecursion.{All-weaker, All-map}
use Rattle.std.proofs.lemmas.Bool.{cond-true, cond-false, cases_Bool, true≢false}
use Rattle.model.specs.Terms.{Access}
use Rattle.model.specs.Grammar.{Tree, access, group, times, plus, Syntax, text}
use Rattle.model.specs.Reading.{accesses, PlacedAccess, accesses_from, placed_accesses, placed_vars, body_place}
use Rattle.model.specs.Conditions.{Slots, Check, first_fault, leftmost, beyond, places, left_vars, access_vars, all_vars, firsts, openings, over_limits, wrong_access, uneven, other_extent, wrong_order, out_of_order, or_else, Rule, LineFault, limits, access_rule, evenness, extents, loop_order, argument_order, judged}

some_none : {A : Type 0} (x : A) → Some x ≡ None → ⊥
some_none x h = let z : ◌≡◌ {A = ℕ} 0 1 = cc in omega arith

or_else_none : (o : Option ℕ) (r : Rule) (rest : Option LineFault) → or_else o r rest ≡ None → (o ≡ None) × (rest ≡ None)
or_else_none None r rest h = (refl, h)
or_else_none (Some p) r rest h = absurd (some_none (record { rule = r; place = p }) h)

-- nothing is at fault
pub record Faultless (slots : Slots) (l : Syntax) : Type 0 where
  pub within : over_limits l ≡ None
  pub accessed : wrong_access slots l ≡ None
  pub even : uneven l ≡ None
  pub sized : other_extent slots l ≡ None
  pub ordered : wrong_order l ≡ None
  pub in_order : out_of_order l ≡ None

pub no_faults : (slots : Slots) (l : Syntax) → judged slots l ≡ None → Faultless slots l
no_faults slots l h =
    let f6 = or_else (out_of_order l) argument_order None in
    let f5 = or_else (wrong_order l) loop_order f6 in
    let f4 = or_else (other_extent slots l) extents f5 in
    let f3 = or_else (uneven l) evenness f4 in
    let f2 = or_else (wrong_access slots l) access_rule f3 in
    let a = or_else_none (over_limits l) limits f2 h in
    let b = or_else_none (wrong_access slots l) access_rule f3 a.1 in
    let c = or_else_none (uneven l) evenness f4 b.1 in
    let d = or_else_none (other_extent slots l) extents f5 c.1 in
    let e = or_else_none (wrong_order l) loop_order f6 d.1 in
    let g = or_else_none (out_of_order l) argument_order None e.1 in
    record { within = a.0; accessed = b.0; even = c.0; sized = d.0; ordered = e.0; in_order = g.0 }

pub leftmost_none : (o q : Option ℕ) → leftmost o q ≡ None → (o ≡ None) × (q ≡ None)
leftmost_none None q h = (refl, h)
leftmost_none (Some p) None h = absurd (some_none p h)
leftmost_none (Some p) (Some q) h = let z : ◌≡◌ {A = ℕ} 0 1 = cc in absurd (omega arith)

abbrev pub Right : Check → Type 0
Right c = c.1 ≡ false

pub all_right : (cs : List Check) → first_fault cs ≡ None → AllByRecursion Right cs
all_right [] h = tt
all_right (c ∷ cs) h =
    elim (cases_Bool c.1) [
      | inl t ↦ absurd (some_none c.0 (sym (cond-true c.1 (Some c.0) (first_fault cs) t) ∙ h))
      | inr f ↦ (f, all_right cs (sym (cond-false c.1 (Some c.0) (first_fault cs) f) ∙ h))
    ]

pub all_front : {A : Type 0} (P : A → Type 0) (xs ys : List A) → AllByRecursion P (xs ++ ys) → AllByRecursion P xs
all_front P [] ys h = tt
all_front P (x ∷ xs) ys h = (h.0, all_front P xs ys h.1)

pub all_back : {A : Type 0} (P : A → Type 0) (xs ys : List A) → AllByRecursion P (xs ++ ys) → AllByRecursion P ys
all_back P [] ys h = h
all_back P (x ∷ xs) ys h = all_back P xs ys h.1

pub all_joined : {X A : Type 0} (P : A → Type 0) (f : X → List A) (xs : List X) → AllByRecursion P (flat_map f xs) → AllByRecursion (λ x. AllByRecursion P (f x)) xs
all_joined P f [] h = tt
all_joined P f (x ∷ xs) h = (all_front P (f x) (flat_map f xs) h, all_joined P f xs (all_back P (f x) (flat_map f xs) h))

none_left : (ps : List ℕ) → AllByRecursion Right (map (λ p. (p, true)) ps) → length ps ≡ 0
none_left [] h = refl
none_left (p ∷ ps) h = absurd (true≢false h.0)

-- none stands behind the nth
pub at_most : (n : ℕ) (ps : List ℕ) → AllByRecursion Right (beyond n ps) → length ps ≤ n
at_most n ps h = let e = length-drop n ps in omega (arith, none_left (drop n ps) h)

both : (p q : ℕ) (a b : Tree) → map (λ x. x.of) (accesses_from p a) ≡ accesses a → map (λ x. x.of) (accesses_from q b) ≡ accesses b → map (λ x. x.of) (accesses_from p a) ++ map (λ x. x.of) (accesses_from q b) ≡ accesses a ++ accesses b
both p q a b e d = cc

pub placed_of : (p : ℕ) (t : Tree) → map (λ a. a.of) (accesses_from p t) ≡ accesses t
placed_of p (access l vs) = refl
placed_of p (group t) = placed_of (p + 1) t
placed_of p (times a b) =
    map-append (λ x. x.of) (accesses_from p a) (accesses_from (p + length (text a) + 1) b) ∙ both p (p + length (text a) + 1) a b (placed_of p a) (placed_of (p + length (text a) + 1) b)
placed_of p (plus a b) =
    map-append (λ x. x.of) (accesses_from p a) (accesses_from (p + length (text a) + 1) b) ∙ both p (p + length (text a) + 1) a b (placed_of p a) (placed_of (p + length (text a) + 1) b)

placed_vars_length : (p : ℕ) (vs : List ℕ) → length (placed_vars p vs) ≡ length vs
placed_vars_length p [] = refl
placed_vars_length p (v ∷ vs) = ap suc (placed_vars_length (p + 2) vs)

few_placed : (n p : ℕ) (vs : List ℕ) → AllByRecursion Right (beyond n (places (placed_vars p vs))) → length vs ≤ n
few_placed n p vs h =
    omega (arith, at_most n (places (placed_vars p vs)) h, length-map (placed_vars p vs) (λ (x : ℕ × ℕ). x.0), placed_vars_length p vs)

-- the numbers of accesses, of left variables, of different variables and of an access's variables
pub record Limited (l : Syntax) : Type 0 where
  pub reads : length (accesses l.body) ≤ 8
  pub left : length l.left ≤ 3
  pub different : length (firsts [] (all_vars l)) ≤ 4
  pub vars : AllByRecursion (λ (a : Access). length a.vars ≤ 3) (accesses l.body)

pub within_limits : (l : Syntax) → over_limits l ≡ None → Limited l
within_limits l h =
    let ps = placed_accesses l in
    let of_body = placed_of (body_place l) l.body in
    let lists = beyond 3 (places (left_vars l)) ++ flat_map (λ a. beyond 3 (places (access_vars a))) ps in
    let brackets = first_fault (map (λ o. (o.0, ltb 4 o.1)) (openings (body_place l) 0 l.body)) in
    let variables = first_fault (beyond 4 (places (firsts [] (all_vars l)))) in
    let a = leftmost_none (first_fault (beyond 8 (map (λ x. x.place) ps))) (leftmost variables (leftmost (first_fault lists) brackets)) h in
    let b = leftmost_none variables (leftmost (first_fault lists) brackets) a.1 in
    let c = all_right lists (leftmost_none (first_fault lists) brackets b.1).0 in
    let left = beyond 3 (places (left_vars l)) in
    let rest = flat_map (λ x. beyond 3 (places (access_vars x))) ps in
    let each = all_joined Right (λ x. beyond 3 (places (access_vars x))) ps (all_back Right left rest c) in
    record {
      reads = omega (arith, at_most 8 (map (λ x. x.place) ps) (all_right (beyond 8 (map (λ x. x.place) ps)) a.0), length-map ps (λ x. x.place), length-map ps (λ x. x.of), ap length of_body);
      left = few_placed 3 2 l.left (all_front Right left rest c);
      different = omega (arith, at_most 4 (places (firsts [] (all_vars l))) (all_right (beyond 4 (places (firsts [] (all_vars l)))) b.0), length-map (firsts [] (all_vars l)) (λ (x : ℕ × ℕ). x.0));
      vars = subst (AllByRecursion (λ x. length x.vars ≤ 3)) of_body
          (All-map (λ (x : Access). length x.vars ≤ 3) (λ (x : PlacedAccess). x.of) ps
          (All-weaker (λ x. AllByRecursion Right (beyond 3 (places (access_vars x)))) (λ x. length x.of.vars ≤ 3) (λ x g. few_placed 3 (x.place + 2) x.of.vars g) ps each));
    }
