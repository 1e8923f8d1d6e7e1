-- Tables: what stands at a key, and that it determines the results. Assumes nothing.
use Rattle.std.proofs.Common.{◌≡◌, ℕ, ◌<◌, Bool, true, false, cond, eqb, ltb, List, [], ◌∷◌, map, sym, refl, ap, ◌∙◌, subst, ap₂, true≢false, arith}
use mathlib.Core.Bool.{false≢true}
use Rattle.std.specs.List.{AllByRecursion}
use Rattle.std.proofs.lemmas.Bool.{eq-eqb, eqb-true, eqb-false, ltb-true, ltb-false, lt-ltb}
use Rattle.model.specs.Semirings.{Algebra, Laws, total, ZeroTest}
use Rattle.model.specs.Tensors.{same}
use Rattle.model.specs.Blocks.{Key}
use Rattle.model.specs.Running.{Table, before, insert, inserts, results}
use Rattle.model.specs.Meaning.{Ascending}
use Rattle.model.proofs.Totals.{sum_zero_right}
use Rattle.model.proofs.Assignments.{same_is, same_self}

pub no_self : (x : ℕ) → ltb x x ≡ false
no_self x = go (ltb x x) refl
  where
    go : (b : Bool) → ltb x x ≡ b → b ≡ false
    go true e = let lt = ltb-true x x e in absurd (omega arith)
    go false e = refl

pub before_self : (k : Key) → before k k ≡ false
before_self [] = refl
before_self (x ∷ k) = ap (λ b. cond b true (cond (eqb x x) (before k k) false)) (no_self x) ∙ ap (λ b. cond b (before k k) false) (eq-eqb x x refl) ∙ before_self k

-- before, as a relation
abbrev pub Before : Key → Key → Type 0
Before j k = before j k ≡ true

pub before_trans : (i j k : Key) → Before i j → Before j k → Before i k
before_trans [] j k h g = absurd (false≢true h)
before_trans (x ∷ i) [] k h g = absurd (false≢true h)
before_trans (x ∷ i) (y ∷ j) [] h g = absurd (false≢true g)
before_trans (x ∷ i) (y ∷ j) (z ∷ k) h g = go (ltb x y) (eqb x y) refl refl h (ltb y z) (eqb y z) refl refl g (before_trans i j k)
  where
    less : x < z → Before (x ∷ i) (z ∷ k)
    less lt = ap (λ b. cond b true (cond (eqb x z) (before i k) false)) (lt-ltb x z lt)

    go : (b d : Bool) → ltb x y ≡ b → eqb x y ≡ d → cond b true (cond d (before i j) false) ≡ true → (b1 d1 : Bool) → ltb y z ≡ b1 → eqb y z ≡ d1 → cond b1 true (cond d1 (before j k) false) ≡ true → (Before i j → Before j k → Before i k) → Before (x ∷ i) (z ∷ k)
    go true d e q h1 true d1 e1 q1 g1 ih = let a = ltb-true x y e in let b = ltb-true y z e1 in less (omega arith)
    go true d e q h1 false true e1 q1 g1 ih = let a = ltb-true x y e in let b = eqb-true y z q1 in less (omega arith)
    go true d e q h1 false false e1 q1 g1 ih = absurd (false≢true g1)
    go false true e q h1 true d1 e1 q1 g1 ih = let a = eqb-true x y q in let b = ltb-true y z e1 in less (omega arith)
    go false true e q h1 false true e1 q1 g1 ih =
        let both : x ≡ z = eqb-true x y q ∙ eqb-true y z q1 in
        subst (λ w. Before (x ∷ i) (w ∷ k)) both (ap (λ b. cond b true (cond (eqb x x) (before i k) false)) (no_self x) ∙ ap (λ b. cond b (before i k) false) (eq-eqb x x refl) ∙ ih h1 g1)
    go false true e q h1 false false e1 q1 g1 ih = absurd (false≢true g1)
    go false false e q h1 b1 d1 e1 q1 g1 ih = absurd (false≢true h1)

before_other : (j k : Key) → Before j k → same k j ≡ false
before_other j k h = go (same k j) refl
  where
    go : (b : Bool) → same k j ≡ b → b ≡ false
    go true e = absurd (true≢false (sym (subst (λ i. Before j i) (same_is k j e) h) ∙ before_self j))
    go false e = refl

-- keys of one length are the same, or one is before the other
abbrev pub Long : {A : Type 0} → List A → Key → Type 0
Long [] [] = Unit {0}
Long [] (c ∷ k) = ⊥
Long (v ∷ vs) [] = ⊥
Long (v ∷ vs) (c ∷ k) = Long vs k

pub data Order (j k : Key) : Type 0 where
  less : before j k ≡ true → Order j k
  equal : same j k ≡ true → Order j k
  more : before k j ≡ true → Order j k

pub order : {A : Type 0} (vs : List A) (j k : Key) → Long vs j → Long vs k → Order j k
order [] [] [] a b = equal refl
order [] [] (y ∷ k) a b = absurd b
order [] (x ∷ j) k a b = absurd a
order (v ∷ vs) [] k a b = absurd a
order (v ∷ vs) (x ∷ j) [] a b = absurd b
order (v ∷ vs) (x ∷ j) (y ∷ k) a b = go (ltb x y) (eqb x y) refl refl (order vs j k a b)
  where
    go : (b d : Bool) → ltb x y ≡ b → eqb x y ≡ d → Order j k → Order (x ∷ j) (y ∷ k)
    go true d e q o = less (ap (λ b. cond b true (cond (eqb x y) (before j k) false)) e)
    go false true e q (less h) = less (ap₂ (λ b d. cond b true (cond d (before j k) false)) e q ∙ h)
    go false true e q (equal h) = equal (ap (λ d. cond d (same j k) false) q ∙ h)
    go false true e q (more h) = more (subst (λ z. Before (z ∷ k) (x ∷ j)) (eqb-true x y q) (ap (λ b. cond b true (cond (eqb x x) (before k j) false)) (no_self x) ∙ ap (λ b. cond b (before k j) false) (eq-eqb x x refl) ∙ h))
    go false false e q o = let le = ltb-false x y e in let ne = eqb-false x y q in more (ap (λ b. cond b true (cond (eqb y x) (before k j) false)) (lt-ltb y x (omega arith)))

module _ {V : Type 0} (K : Algebra V) (laws : Laws K) where
  -- what a table comes to at a key
  abbrev pub look : Key → Table V → V
  look k es = total K (map (λ e. cond (same e.0 k) e.1 K.zero) es)

  pub look_insert : (k j : Key) (x : V) (t : Table V) → look k (insert K j x t) ≡ K.sum (cond (same j k) x K.zero) (look k t)
  look_insert k j x [] = refl
  look_insert k j x (e ∷ t) = go (same j e.0) (before j e.0) refl (look_insert k j x t)
    where
      swap : (a b c : V) → K.sum a (K.sum b c) ≡ K.sum b (K.sum a c)
      swap a b c = sym (laws.sum_assoc a b c) ∙ ap (λ z. K.sum z c) (laws.sum_comm a b) ∙ laws.sum_assoc b a c

      split : (b : Bool) → cond b (K.sum e.1 x) K.zero ≡ K.sum (cond b x K.zero) (cond b e.1 K.zero)
      split true = laws.sum_comm e.1 x
      split false = sym (laws.sum_zero K.zero)

      go : (b d : Bool) → same j e.0 ≡ b → look k (insert K j x t) ≡ K.sum (cond (same j k) x K.zero) (look k t)
          → look k (cond b ((e.0, K.sum e.1 x) ∷ t) (cond d ((j, x) ∷ e ∷ t) (e ∷ insert K j x t))) ≡ K.sum (cond (same j k) x K.zero) (look k (e ∷ t))
      go true d q ih =
          ap (λ y. K.sum y (look k t)) (split (same e.0 k))
          ∙ ap (λ i. K.sum (K.sum (cond (same i k) x K.zero) (cond (same e.0 k) e.1 K.zero)) (look k t)) (sym (same_is j e.0 q))
          ∙ laws.sum_assoc (cond (same j k) x K.zero) (cond (same e.0 k) e.1 K.zero) (look k t)
      go false true q ih = refl
      go false false q ih = ap (K.sum (cond (same e.0 k) e.1 K.zero)) ih ∙ swap (cond (same e.0 k) e.1 K.zero) (cond (same j k) x K.zero) (look k t)

  pub look_inserts : (k : Key) (es t : Table V) → look k (inserts K es t) ≡ K.sum (look k es) (look k t)
  look_inserts k [] t = sym (laws.sum_zero (look k t))
  look_inserts k (e ∷ es) t =
      look_inserts k es (insert K e.0 e.1 t) ∙ ap (K.sum (look k es)) (look_insert k e.0 e.1 t)
      ∙ sym (laws.sum_assoc (look k es) (cond (same e.0 k) e.1 K.zero) (look k t))
      ∙ ap (λ z. K.sum z (look k t)) (laws.sum_comm (look k es) (cond (same e.0 k) e.1 K.zero))

  -- keys ascend
  abbrev pub Above : Key → Table V → Type 0
  Above k t = AllByRecursion (λ e. Before k e.0) t

  abbrev pub Keyed : {A : Type 0} → List A → Table V → Type 0
  Keyed vs t = AllByRecursion (λ e. Long vs e.0) t

  look_above : (k : Key) (t : Table V) → Above k t → look k t ≡ K.zero
  look_above k [] h = refl
  look_above k (e ∷ t) h = ap₂ K.sum (ap (λ b. cond b e.1 K.zero) (before_other k e.0 h.0)) (look_above k t h.1) ∙ laws.sum_zero K.zero

  look_head : (e : Key × V) (t : Table V) → Above e.0 t → look e.0 (e ∷ t) ≡ e.1
  look_head e t h = ap₂ K.sum (ap (λ b. cond b e.1 K.zero) (same_self e.0)) (look_above e.0 t h) ∙ sum_zero_right K laws e.1

  above_trans : (j k : Key) (t : Table V) → Before j k → Above k t → Above j t
  above_trans j k [] b h = tt
  above_trans j k (e ∷ t) b h = (before_trans j k e.0 b h.0, above_trans j k t b h.1)

  module _ (tests : ZeroTest K) {A : Type 0} (vs : List A) where
    drop_zero : (e : Key × V) (t : Table V) → e.1 ≡ K.zero → results K (e ∷ t) ≡ results K t
    drop_zero e t z = ap (λ b. cond b (results K t) (e ∷ results K t)) (ap K.is_zero z ∙ tests.zero_yes)

    look_zero : (k : Key) (e : Key × V) (t : Table V) → e.1 ≡ K.zero → look k (e ∷ t) ≡ look k t
    look_zero k e t z = ap (λ y. K.sum y (look k t)) (go (same e.0 k)) ∙ laws.sum_zero (look k t)
      where
        go : (b : Bool) → cond b e.1 K.zero ≡ K.zero
        go true = z
        go false = refl

    abbrev Same : Table V → Table V → Type 0
    Same s t = (k : Key) → look k s ≡ look k t

    nothing : (t : Table V) → Ascending t → Same [] t → [] ≡ results K t
    nothing [] c h = refl
    nothing (f ∷ t) c h =
        let z : f.1 ≡ K.zero = sym (look_head f t c.0) ∙ sym (h f.0) in
        nothing t c.1 (λ k. h k ∙ look_zero k f t z) ∙ sym (drop_zero f t z)

    head_first :
        (e : Key × V) (s : Table V) → ((t : Table V) → Ascending t → Keyed vs t → Same s t → results K s ≡ results K t) → Ascending (e ∷ s) → Keyed vs (e ∷ s)
        → (t : Table V) → Ascending t → Keyed vs t → Same (e ∷ s) t → results K (e ∷ s) ≡ results K t
    head_first e s again c l [] c1 l1 h =
        let z : e.1 ≡ K.zero = sym (look_head e s c.0) ∙ h e.0 in
        drop_zero e s z ∙ again [] tt tt (λ k. sym (look_zero k e s z) ∙ h k)
    head_first e s again c l (f ∷ t) c1 l1 h = go (order vs e.0 f.0 l.0 l1.0) (λ h1. head_first e s again c l t c1.1 l1.1 h1)
      where
        go : Order e.0 f.0 → (Same (e ∷ s) t → results K (e ∷ s) ≡ results K t) → results K (e ∷ s) ≡ results K (f ∷ t)
        go (less b) inner =
            let z : e.1 ≡ K.zero = sym (look_head e s c.0) ∙ h e.0 ∙ look_above e.0 (f ∷ t) (b, above_trans e.0 f.0 t b c1.0) in
            drop_zero e s z ∙ again (f ∷ t) c1 l1 (λ k. sym (look_zero k e s z) ∙ h k)
        go (more b) inner =
            let z : f.1 ≡ K.zero = sym (look_head f t c1.0) ∙ sym (h f.0) ∙ look_above f.0 (e ∷ s) (b, above_trans f.0 e.0 s b c.0) in
            inner (λ k. h k ∙ look_zero k f t z) ∙ sym (drop_zero f t z)
        go (equal q) inner =
            let equal_keys : e.0 ≡ f.0 = same_is e.0 f.0 q in
            let equal_values : e.1 ≡ f.1 = sym (look_head e s c.0) ∙ h e.0 ∙ ap (λ k. look k (f ∷ t)) equal_keys ∙ look_head f t c1.0 in
            ap₂ (λ (k : Key) x. cond (K.is_zero x) (results K s) ((k, x) ∷ results K s)) equal_keys equal_values
            ∙ ap (λ (r : Table V). cond (K.is_zero f.1) r (f ∷ r)) (again t c1.1 l1.1 (λ k. rest k (same e.0 k) refl equal_keys equal_values))
          where
            rest : (k : Key) (b : Bool) → same e.0 k ≡ b → e.0 ≡ f.0 → e.1 ≡ f.1 → look k s ≡ look k t
            rest k true r equal_keys equal_values =
                let me : e.0 ≡ k = same_is e.0 k r in
                look_above k s (subst (λ j. Above j s) me c.0) ∙ sym (look_above k t (subst (λ j. Above j t) (sym equal_keys ∙ me) c1.0))
            rest k false r equal_keys equal_values =
                sym (laws.sum_zero (look k s)) ∙ ap (λ b. K.sum (cond b e.1 K.zero) (look k s)) (sym r)
                ∙ h k ∙ ap (λ b. K.sum (cond b f.1 K.zero) (look k t)) (ap (λ j. same j k) (sym equal_keys) ∙ r) ∙ laws.sum_zero (look k t)

    -- tables that come to the same at every key have the same results
    pub results_same : (s t : Table V) → Ascending s → Keyed vs s → Ascending t → Keyed vs t → Same s t → results K s ≡ results K t
    results_same [] t c l c1 l1 h = nothing t c1 h
    results_same (e ∷ s) t c l c1 l1 h = head_first e s (λ u cu lu hu. results_same s u c.1 l.1 cu lu hu) c l t c1 l1 h
