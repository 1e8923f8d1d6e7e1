-- The order of rows and of their fronts.
use Rattle.std.proofs.Common.{◌≡◌, ℕ, zero, suc, Bool, true, false, cond, ◌||◌, eqb, ltb, ◌⊎◌, List, [], ◌∷◌, take, sym, refl, ap, ◌∙◌, subst, ap₂, inl, inr, ⊎_elim}
use mathlib.Core.Bool.{false≢true}
use Rattle.std.specs.List.{AllByRecursion}
use Rattle.std.proofs.ByRecursion.{All-weaker}
use Rattle.std.proofs.lemmas.Bool.{eqb-true, cases_Bool, or_left}
use Rattle.model.specs.Tensors.{same}
use Rattle.model.specs.Running.{before}
use Rattle.model.specs.Stores.{some_pass}
use Rattle.model.proofs.Assignments.{same_is, same_self}
use Rattle.model.proofs.Tables.{before_self, before_trans}
use Rattle.plans.specs.Rows.{Rising, next_same}

-- of two rows in order, the fronts are the same or in order
pub front_order : (d : ℕ) (x y : List ℕ) → before x y ≡ true → (take d x ≡ take d y) ⊎ (before (take d x) (take d y) ≡ true)
front_order zero x y h = inl refl
front_order (suc d) [] y h = absurd (false≢true h)
front_order (suc d) (a ∷ x) [] h = absurd (false≢true h)
front_order (suc d) (a ∷ x) (b ∷ y) h = go (ltb a b) (eqb a b) refl refl h (front_order d x y)
  where
    go : (l e : Bool) → ltb a b ≡ l → eqb a b ≡ e → cond l true (cond e (before x y) false) ≡ true
        → (before x y ≡ true → (take d x ≡ take d y) ⊎ (before (take d x) (take d y) ≡ true))
        → (a ∷ take d x ≡ b ∷ take d y) ⊎ (before (a ∷ take d x) (b ∷ take d y) ≡ true)
    go true e p q h1 ih = inr (ap (λ l. cond l true (cond (eqb a b) (before (take d x) (take d y)) false)) p)
    go false true p q h1 ih =
        ⊎_elim
        (λ s. inl (ap₂ (λ c (l : List ℕ). c ∷ l) (eqb-true a b q) s))
        (λ s. inr (ap₂ (λ l e. cond l true (cond e (before (take d x) (take d y)) false)) p q ∙ s))
        (ih h1)
    go false false p q h1 ih = absurd (false≢true h1)

pub before_differs : (x y : List ℕ) → before x y ≡ true → same x y ≡ false
before_differs x y h = go (same x y) refl
  where
    go : (b : Bool) → same x y ≡ b → b ≡ false
    go true e = absurd (false≢true (sym (before_self y) ∙ subst (λ z. before z y ≡ true) (same_is x y e) h))
    go false e = refl

-- if the next row has another front, so has each after it
pub front_apart : (d : ℕ) (x y z : List ℕ) → before x y ≡ true → before y z ≡ true → same (take d x) (take d y) ≡ false → same (take d x) (take d z) ≡ false
front_apart d x y z h g s =
    ⊎_elim
    (λ e. absurd (false≢true (sym s ∙ ap (same (take d x)) (sym e) ∙ same_self (take d x))))
    (λ b. ⊎_elim
    (λ e. ap (same (take d x)) (sym e) ∙ s)
    (λ c. before_differs (take d x) (take d z) (before_trans (take d x) (take d y) (take d z) b c))
    (front_order d y z g))
    (front_order d x y h)

none_pass : {A : Type 0} (p : A → Bool) (xs : List A) → AllByRecursion (λ x. p x ≡ false) xs → some_pass p xs ≡ false
none_pass p [] h = refl
none_pass p (x ∷ xs) h = ap₂ ◌||◌ h.0 (none_pass p xs h.1)

-- in rising rows a front is seen again exactly if the next row has it
pub seen_next : (d : ℕ) (x : List ℕ) (ys : List (List ℕ)) → Rising (x ∷ ys) → some_pass (λ ds. same (take d x) (take d ds)) ys ≡ next_same d x ys
seen_next d x [] r = refl
seen_next d x (y ∷ ys) r =
    ⊎_elim
    (λ e. or_left (same (take d x) (take d y)) (some_pass (λ ds. same (take d x) (take d ds)) ys) e ∙ sym e)
    (λ e. ap₂ ◌||◌ e (none_pass (λ ds. same (take d x) (take d ds)) ys
    (All-weaker (λ z. before y z ≡ true) (λ z. same (take d x) (take d z) ≡ false) (λ z h. front_apart d x y z r.0.0 h e) ys r.1.0)) ∙ sym e)
    (cases_Bool (same (take d x) (take d y)))
