-- Sets of variables. Assumes nothing.
use Rattle.std.proofs.Common.{◌≡◌, ℕ, zero, suc, ◌+◌, ◌-◌, ◌<◌, ◌≤◌, Bool, true, false, not, ◌&&◌, ◌||◌, eqb, leb, List, [], ◌∷◌, length, get_or, replicate, Decides, sym, refl, ap, ◌∙◌, subst, ⊎_elim, arith}
use lib.ListN.{length-replicate}
use Rattle.std.specs.List.{list_all, zip}
use Rattle.std.proofs.lemmas.List.{get_or-replicate, get_or_past}
use Rattle.std.proofs.lemmas.Bool.{false≢true, cases_lt, le-leb, eq-eqb, eqb-true, or_cases, or_left, or_right, and_parts, and_from}
use Rattle.std.proofs.lemmas.Bool.Decides.{same_from_decides}
use Rattle.model.specs.Tensors.{has}
use Rattle.model.specs.Grammar.{is_var, Vars}
use Rattle.model.specs.Conditions.{all_in}
use Rattle.lines.specs.declared.sets.VarSet.{VarSet}
use Rattle.lines.specs.Sets.{in_set, With, Within, SetOf}

pub all_false : (n i : ℕ) → get_or (replicate n false) i false ≡ false
all_false n i = ⊎_elim (λ lt. get_or-replicate n i false false lt) (λ le. get_or_past (replicate n false) i false (subst (λ m. m ≤ i) (sym (length-replicate n false)) le)) (cases_lt i n)

-- the k-th letter
letter : (k : ℕ) → k < 26 → is_var (k + 97) ≡ true
letter k h =
    let low : 97 ≤ k + 97 = omega arith in
    let high : k + 97 ≤ 122 = omega arith in
    ap (λ b. b && leb (k + 97) 122) (le-leb 97 (k + 97) low) ∙ le-leb (k + 97) 122 high

-- one set of letters covers another, place by place
covers : (x y : Bool) → (x || not y) ≡ true → y ≡ true → x ≡ true
covers true y h g = refl
covers false true h g = h
covers false false h g = g

covered : (x y : Bool) → (y ≡ true → x ≡ true) → (x || not y) ≡ true
covered true y f = refl
covered false true f = f refl
covered false false f = refl

all_cover : (xs ys : List Bool) → length xs ≡ length ys → list_all (λ (p : Bool × Bool). p.0 || not p.1) (zip xs ys) ≡ true → (i : ℕ) → get_or ys i false ≡ true → get_or xs i false ≡ true
all_cover [] [] e h i g = g
all_cover [] (y ∷ ys) e h i g = absurd (omega arith)
all_cover (x ∷ xs) [] e h i g = absurd (omega arith)
all_cover (x ∷ xs) (y ∷ ys) e h zero g = covers x y (and_parts (x || not y) (list_all (λ (p : Bool × Bool). p.0 || not p.1) (zip xs ys)) h).0 g
all_cover (x ∷ xs) (y ∷ ys) e h (suc i) g = all_cover xs ys (omega arith) (and_parts (x || not y) (list_all (λ (p : Bool × Bool). p.0 || not p.1) (zip xs ys)) h).1 i g

cover_all : (xs ys : List Bool) → ((i : ℕ) → get_or ys i false ≡ true → get_or xs i false ≡ true) → list_all (λ (p : Bool × Bool). p.0 || not p.1) (zip xs ys) ≡ true
cover_all [] ys f = refl
cover_all (x ∷ xs) [] f = refl
cover_all (x ∷ xs) (y ∷ ys) f = and_from (x || not y) (list_all (λ (p : Bool × Bool). p.0 || not p.1) (zip xs ys)) (covered x y (f 0)) (cover_all xs ys (λ i. f (suc i)))

pub includes_all : (m n : VarSet) (r : Bool) → r ≡ list_all (λ (p : Bool × Bool). p.0 || not p.1) (zip n.present m.present) → Decides r (Within m n)
includes_all m n r e = (
  λ yes v is. all_cover n.present m.present (n.letters ∙ sym m.letters) (sym e ∙ yes) (v - 97),
  λ w. e ∙ cover_all n.present m.present (λ i g.
      ⊎_elim
      (λ lt.
      let back : i + 97 - 97 ≡ i = omega arith in
      sym (ap (λ x. get_or n.present x false) back) ∙ w (i + 97) (letter i lt) (ap (λ x. get_or m.present x false) back ∙ g))
      (λ le. absurd (false≢true (sym (get_or_past m.present i false (omega (arith, m.letters))) ∙ g)))
      (cases_lt i 26)),
)

pub or_none : (b : Bool) → (b || false) ≡ b
or_none true = refl
or_none false = refl

pub or_swap : (x y z : Bool) → (x || (y || z)) ≡ ((y || x) || z)
or_swap true true z = refl
or_swap true false z = refl
or_swap false true z = refl
or_swap false false z = refl

-- one more of a list of variables that are added to a set
pub adds_on : (xs : List ℕ) (x : ℕ) (old new : VarSet) (whole : Bool) (v : ℕ) → is_var v ≡ true → With old x new → (has (x ∷ xs) v || in_set old v) ≡ whole → (has xs v || in_set new v) ≡ whole
adds_on xs x old new whole v is w inv = ap (λ b. has xs v || b) (w v is) ∙ or_swap (has xs v) (eqb x v) (in_set old v) ∙ inv

all_in_from : (us os : List ℕ) → Vars us → ((v : ℕ) → is_var v ≡ true → has us v ≡ true → has os v ≡ true) → all_in us os ≡ true
all_in_from [] os vars f = refl
all_in_from (u ∷ us) os vars f =
    and_from (has os u) (all_in us os) (f u vars.0 (or_left (eqb u u) (has us u) (eq-eqb u u refl)))
    (all_in_from us os vars.1 (λ v is h. f v is (or_right (eqb u v) (has us v) h)))

all_in_gives : (us os : List ℕ) → all_in us os ≡ true → (v : ℕ) → has us v ≡ true → has os v ≡ true
all_in_gives [] os e v h = absurd (false≢true h)
all_in_gives (u ∷ us) os e v h =
    let p = and_parts (has os u) (all_in us os) e in
    ⊎_elim (λ is. subst (λ x. has os x ≡ true) (eqb-true u v is) p.0) (λ on. all_in_gives us os p.1 v on) (or_cases (eqb u v) (has us v) h)

-- one set within another, as lists
pub included : (us os : List ℕ) (m n : VarSet) (r : Bool) → Vars us → SetOf us m → SetOf os n → Decides r (Within m n) → r ≡ all_in us os
included us os m n r vars sm sn d =
    same_from_decides r (all_in us os) d (
      (λ e v is h. sn v is ∙ all_in_gives us os e v (sym (sm v is) ∙ h)),
      (λ w. all_in_from us os vars (λ v is h. sym (sn v is) ∙ w v is (sm v is ∙ h))),
    )
