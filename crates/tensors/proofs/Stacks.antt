-- Stacked levels: what references they reach, and that coordinates and references determine each other.
use Rattle.std.proofs.Common.{◌≡◌, ℕ, suc, ◌<◌, Bool, true, false, cond, eqb, List, [], ◌∷◌, ◌++◌, length, get_or, Some, None, Option, sym, refl, ap, ◌∙◌, subst, ap₂, arith}
use Rattle.std.proofs.lemmas.Bool.{eqb-true}
use Rattle.model.specs.Fibers.{Level, Fiber, Lawful, fiber, fiber_at, child, coord}
use Rattle.model.specs.Tensors.{Stacked, reached}

pub stacked_long : (es : List ℕ) (f : ℕ) (ls : List Level) (n : ℕ) → Stacked es f ls n → length ls ≡ length es
stacked_long [] f [] n s = refl
stacked_long [] f (l ∷ ls) n s = absurd s
stacked_long (e ∷ es) f [] n s = absurd s
stacked_long (e ∷ es) f (l ∷ ls) n s = ap suc (stacked_long es s.0 ls n s.2)

-- one more level below
pub stacked_more : (es : List ℕ) (f : ℕ) (ls : List Level) (m e n : ℕ) (l : Level) → Stacked es f ls m → Lawful e m n l
    → Stacked (es ++ e ∷ []) f (ls ++ l ∷ []) n
stacked_more [] f [] m e n l s lawful = (n, subst (λ g. Lawful e g n l) (sym s) lawful, refl)
stacked_more [] f (k ∷ ls) m e n l s lawful = absurd s
stacked_more (d ∷ es) f [] m e n l s lawful = absurd s
stacked_more (d ∷ es) f (k ∷ ls) m e n l s lawful = (s.0, s.1, stacked_more es s.0 ls m e n l s.2 lawful)

pub reached_more : (ls : List Level) (l : Level) (r : Option ℕ) (cs : List ℕ) (c : ℕ) → length cs ≡ length ls
    → reached (ls ++ l ∷ []) r (cs ++ c ∷ []) ≡ child (fiber_at l (reached ls r cs)) c
reached_more [] l r [] c h = refl
reached_more [] l r (x ∷ cs) c h = absurd (omega arith)
reached_more (k ∷ ls) l r [] c h = absurd (omega arith)
reached_more (k ∷ ls) l r (x ∷ cs) c h = reached_more ls l (child (fiber_at k r) x) cs c (omega arith)

reached_none : (ls : List Level) (cs : List ℕ) → reached ls None cs ≡ None
reached_none ls [] = refl
reached_none [] (c ∷ cs) = refl
reached_none (l ∷ ls) (c ∷ cs) = reached_none ls cs

-- a child is found at a place of the fiber
child_place : (xs : Fiber) (c j : ℕ) → child xs c ≡ Some j → (k : ℕ) × (k < length xs) × ((get_or xs k (0, 0)).0 ≡ c) × ((get_or xs k (0, 0)).1 ≡ j)
child_place [] c j h = absurd (let z : ◌≡◌ {A = ℕ} 0 1 = cc in omega arith)
child_place (x ∷ xs) c j h = go (eqb x.0 c) refl h (child_place xs c j)
  where
    go : (b : Bool) → eqb x.0 c ≡ b → cond b (Some x.1) (child xs c) ≡ Some j
        → (child xs c ≡ Some j → (k : ℕ) × (k < length xs) × ((get_or xs k (0, 0)).0 ≡ c) × ((get_or xs k (0, 0)).1 ≡ j))
        → (k : ℕ) × (k < suc (length xs)) × ((get_or (x ∷ xs) k (0, 0)).0 ≡ c) × ((get_or (x ∷ xs) k (0, 0)).1 ≡ j)
    go true e q ih = (0, omega arith, eqb-true x.0 c e, cc)
    go false e q ih = let r = ih q in (suc r.0, omega (arith, r.1), r.2, r.3)

module _ (e f n : ℕ) (l : Level) (w : Lawful e f n l) where
  child_below : (r c j : ℕ) → r < f → child (fiber l r) c ≡ Some j → j < n
  child_below r c j h q = let p = child_place (fiber l r) c j q in omega (arith, w.below r p.0 h p.1, p.3)

  child_one : (r q c d j : ℕ) → r < f → q < f → child (fiber l r) c ≡ Some j → child (fiber l q) d ≡ Some j → (r ≡ q) × (c ≡ d)
  child_one r q c d j h i a b =
      let x = child_place (fiber l r) c j a in
      let y = child_place (fiber l q) d j b in
      let o = w.once r x.0 q y.0 h x.1 i y.1 (x.3 ∙ sym y.3) in
      (o.0, sym x.2 ∙ ap₂ (λ g k. coord l g k) o.0 o.1 ∙ y.2)

-- a reference reached goes through a child of the first level
first_child : (l : Level) (ls : List Level) (r c : ℕ) (cs : List ℕ) (p : ℕ) → reached ls (child (fiber l r) c) cs ≡ Some p
    → (j : ℕ) × (child (fiber l r) c ≡ Some j) × (reached ls (Some j) cs ≡ Some p)
first_child l ls r c cs p h = go (child (fiber l r) c) refl h
  where
    go : (o : Option ℕ) → child (fiber l r) c ≡ o → reached ls o cs ≡ Some p → (j : ℕ) × (child (fiber l r) c ≡ Some j) × (reached ls (Some j) cs ≡ Some p)
    go None e q = absurd (let n = reached_none ls cs in let z : ◌≡◌ {A = ℕ} 0 1 = cc in omega arith)
    go (Some j) e q = (j, e, q)

pub reached_below : (es : List ℕ) (f : ℕ) (ls : List Level) (n : ℕ) → Stacked es f ls n → (r : ℕ) (cs : List ℕ) (p : ℕ) → r < f → length cs ≡ length ls
    → reached ls (Some r) cs ≡ Some p → p < n
reached_below [] f [] n s r [] p h k q = let e : r ≡ p = cc in omega (arith, s)
reached_below [] f [] n s r (c ∷ cs) p h k q = absurd (omega arith)
reached_below [] f (l ∷ ls) n s r cs p h k q = absurd s
reached_below (e ∷ es) f [] n s r cs p h k q = absurd s
reached_below (e ∷ es) f (l ∷ ls) n s r [] p h k q = absurd (omega arith)
reached_below (e ∷ es) f (l ∷ ls) n s r (c ∷ cs) p h k q =
    let x = first_child l ls r c cs p q in
    reached_below es s.0 ls n s.2 x.0 cs p (child_below e f s.0 l s.1 r c x.0 h x.1) (omega arith) x.2

-- different coordinates reach different references
pub reached_one : (es : List ℕ) (f : ℕ) (ls : List Level) (n : ℕ) → Stacked es f ls n → (r q : ℕ) (cs ds : List ℕ) (p : ℕ) → r < f → q < f
    → length cs ≡ length ls → length ds ≡ length ls → reached ls (Some r) cs ≡ Some p → reached ls (Some q) ds ≡ Some p → (r ≡ q) × (cs ≡ ds)
reached_one [] f [] n s r q [] [] p h i k m a b = ((let e : r ≡ q = cc in e), refl)
reached_one [] f [] n s r q [] (d ∷ ds) p h i k m a b = absurd (omega arith)
reached_one [] f [] n s r q (c ∷ cs) ds p h i k m a b = absurd (omega arith)
reached_one [] f (l ∷ ls) n s r q cs ds p h i k m a b = absurd s
reached_one (e ∷ es) f [] n s r q cs ds p h i k m a b = absurd s
reached_one (e ∷ es) f (l ∷ ls) n s r q [] ds p h i k m a b = absurd (omega arith)
reached_one (e ∷ es) f (l ∷ ls) n s r q (c ∷ cs) [] p h i k m a b = absurd (omega arith)
reached_one (e ∷ es) f (l ∷ ls) n s r q (c ∷ cs) (d ∷ ds) p h i k m a b =
    let x = first_child l ls r c cs p a in
    let y = first_child l ls q d ds p b in
    let below = child_below e f s.0 l s.1 in
    let rest = reached_one es s.0 ls n s.2 x.0 y.0 cs ds p (below r c x.0 h x.1) (below q d y.0 i y.1) (omega arith) (omega arith) x.2 y.2 in
    let here = child_one e f s.0 l s.1 r q c d x.0 h i x.1 (y.1 ∙ ap Some (sym rest.0)) in
    (here.0, ap₂ (λ v (xs : List ℕ). v ∷ xs) here.1 rest.1)
