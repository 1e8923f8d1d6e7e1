-- The loop order of an accepted line has 4 variables at most. Assumes nothing.
use Rattle.std.proofs.Common.{◌≡◌, ℕ, suc, ◌+◌, ◌≤◌, Bool, true, false, cond, not, ◌||◌, eqb, List, [], ◌∷◌, ◌++◌, length, None, sym, refl, ap, ◌∙◌, subst, inl, inr, arith}
use Rattle.std.specs.List.{flat_map, AllByRecursion}
use Rattle.std.proofs.lemmas.List.{append_assoc}
use Rattle.std.proofs.lemmas.Bool.{cond_both, cases_Bool, or_parts, or_from, eqb-true, eqb-false, ne_eqb}
use Rattle.model.specs.Tensors.{has}
use Rattle.model.specs.Terms.{kept}
use Rattle.model.specs.Grammar.{Syntax, spell}
use Rattle.model.specs.Reading.{placed_accesses, placed_vars, order_place}
use Rattle.model.specs.Conditions.{firsts, left_vars, access_vars, order_vars, tree_vars, all_in, order_checks, over_limits, wrong_order}
use Rattle.model.proofs.Fit.{Distinct}
use Rattle.model.proofs.Limits.{Right, all_right, all_front, within_limits}

eqb_other : (a b : ℕ) → eqb a b ≡ false → eqb b a ≡ false
eqb_other a b h = ne_eqb b a (λ e. eqb-false a b h (sym e))

lacks : (v : ℕ) (seen vs : List ℕ) → AllByRecursion (λ w. has (v ∷ seen) w ≡ false) vs → has vs v ≡ false
lacks v seen [] h = refl
lacks v seen (w ∷ vs) h = or_from (eqb w v) (has vs v) (eqb_other v w (or_parts (eqb v w) (has seen w) h.0).0) (lacks v seen vs h.1)

others : (v : ℕ) (seen vs : List ℕ) → AllByRecursion (λ w. has (v ∷ seen) w ≡ false) vs → AllByRecursion (λ w. has seen w ≡ false) vs
others v seen [] h = tt
others v seen (w ∷ vs) h = ((or_parts (eqb v w) (has seen w) h.0).1, others v seen vs h.1)

-- a checked order repeats nothing
unseen : (used seen : List ℕ) (p : ℕ) (vs : List ℕ) → AllByRecursion Right (order_checks used seen (placed_vars p vs)) → AllByRecursion (λ v. has seen v ≡ false) vs × Distinct vs
unseen used seen p [] h = (tt, tt)
unseen used seen p (v ∷ vs) h =
    let new = (or_parts (has seen v) (not (has used v)) h.0).0 in
    let r = unseen used (v ∷ seen) (p + 2) vs h.1 in
    ((new, others v seen vs r.0), (lacks v seen vs r.0, r.1))

pub once_order : (l : Syntax) → wrong_order l ≡ None → Distinct l.order
once_order l h =
    let checks = order_checks (tree_vars l.body) [] (order_vars l) in
    let end = (length (spell l), not (all_in (tree_vars l.body) l.order)) ∷ [] in
    (unseen (tree_vars l.body) [] (order_place l) l.order (all_front Right checks end (all_right (checks ++ end) h))).1

-- those that were not seen
abbrev fresh : List ℕ → List ℕ → List ℕ
fresh seen ys = kept (λ y. not (has seen y)) ys

fresh_none : (ys : List ℕ) → fresh [] ys ≡ ys
fresh_none [] = refl
fresh_none (y ∷ ys) = ap (λ zs. y ∷ zs) (fresh_none ys)

abbrev put : Bool → ℕ → List ℕ → List ℕ
put b y zs = cond (not b) (y ∷ zs) zs

same_fresh : (v : ℕ) (seen ys : List ℕ) → has ys v ≡ false → fresh (v ∷ seen) ys ≡ fresh seen ys
same_fresh v seen [] h = refl
same_fresh v seen (y ∷ ys) h =
    let f = or_parts (eqb y v) (has ys v) h in
    ap (λ b. put (b || has seen y) y (fresh (v ∷ seen) ys)) (eqb_other y v f.0) ∙ ap (put (has seen y) y) (same_fresh v seen ys f.1)

-- one more that was seen leaves at most one less
one_less : (v : ℕ) (seen ys : List ℕ) → Distinct ys → length (fresh seen ys) ≤ suc (length (fresh (v ∷ seen) ys))
one_less v seen [] g = omega arith
one_less v seen (y ∷ ys) g =
    elim (cases_Bool (eqb v y)) [
      | inl t ↦
          let rest = same_fresh v seen ys (subst (λ x. has ys x ≡ false) (sym (eqb-true v y t)) g.0) in
          let now : fresh (v ∷ seen) (y ∷ ys) ≡ fresh seen ys = ap (λ b. put (b || has seen y) y (fresh (v ∷ seen) ys)) t ∙ rest in
          subst (λ zs. length (fresh seen (y ∷ ys)) ≤ suc (length zs)) (sym now)
          (cond_both (not (has seen y)) (y ∷ fresh seen ys) (fresh seen ys) (λ zs. length zs ≤ suc (length (fresh seen ys))) (λ e. omega arith) (λ e. omega arith))
      | inr f ↦
          let now : fresh (v ∷ seen) (y ∷ ys) ≡ put (has seen y) y (fresh (v ∷ seen) ys) = ap (λ b. put (b || has seen y) y (fresh (v ∷ seen) ys)) f in
          let less = one_less v seen ys g.1 in
          subst (λ zs. length (fresh seen (y ∷ ys)) ≤ suc (length zs)) (sym now)
          (elim (has seen y) as (λ b. length (put b y (fresh seen ys)) ≤ suc (length (put b y (fresh (v ∷ seen) ys)))) [ true ↦ less | false ↦ omega arith ])
    ]

-- the different variables of an order are its fresh ones
all_first : (seen : List ℕ) (p : ℕ) (ys : List ℕ) → Distinct ys → length (fresh seen ys) ≤ length (firsts seen (placed_vars p ys))
all_first seen p [] g = omega arith
all_first seen p (y ∷ ys) g =
    let a = all_first seen (p + 2) ys g.1 in
    let b = all_first (y ∷ seen) (p + 2) ys g.1 in
    let same = ap length (same_fresh y seen ys g.0) in
    let xs = placed_vars (p + 2) ys in
    elim (has seen y) as (λ t. length (put t y (fresh seen ys)) ≤ length (cond t (firsts seen xs) ((p, y) ∷ firsts (y ∷ seen) xs))) [ true ↦ a | false ↦ omega arith ]

among_firsts : (seen : List ℕ) (xs : List (ℕ × ℕ)) (p : ℕ) (ys : List ℕ) → Distinct ys → length (fresh seen ys) ≤ length (firsts seen (xs ++ placed_vars p ys))
among_firsts seen [] p ys g = all_first seen p ys g
among_firsts seen (x ∷ xs) p ys g =
    let rest = xs ++ placed_vars p ys in
    let a = among_firsts seen xs p ys g in
    let b = among_firsts (x.1 ∷ seen) xs p ys g in
    let less = one_less x.1 seen ys g in
    cond_both (has seen x.1) (firsts seen rest) (x ∷ firsts (x.1 ∷ seen) rest) (λ zs. length (fresh seen ys) ≤ length zs) (λ e. a) (λ e. omega arith)

pub short_order : (l : Syntax) → over_limits l ≡ None → wrong_order l ≡ None → length l.order ≤ 4
short_order l h g =
    let front = left_vars l ++ flat_map access_vars (placed_accesses l) in
    let whole = append_assoc (left_vars l) (flat_map access_vars (placed_accesses l)) (order_vars l) in
    let some = among_firsts [] front (order_place l) l.order (once_order l g) in
    omega (arith, (within_limits l h).different, ap length (fresh_none l.order), ap (λ xs. length (firsts [] xs)) whole)
