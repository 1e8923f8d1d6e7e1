-- Paths as assignments, and the left coordinates picked out of a sum. Assumes nothing.
use Rattle.std.proofs.Common.{◌≡◌, ℕ, ◌<◌, Bool, true, false, cond, not, ◌||◌, eqb, List, [], ◌∷◌, map, length, sym, refl, ap, ◌∙◌, subst, ap₂, true≢false, arith}
use mathlib.Core.Path.{fun_ext}
use mathlib.Core.Bool.{false≢true}
use Rattle.std.proofs.lemmas.Bool.{ne_eqb, eq-eqb, eqb-true, eqb-false}
use Rattle.model.specs.Semirings.{Algebra, Laws, total}
use Rattle.model.specs.Tensors.{has, same}
use Rattle.model.specs.Terms.{kept}
use Rattle.model.specs.Blocks.{Key}
use Rattle.model.specs.Sums.{below, Assignment, bind, bind_all, sum_over}
use Rattle.model.proofs.Fit.{Distinct}
use Rattle.model.proofs.Totals.{total_zeros, total_at}
use Rattle.model.proofs.PathTrees.{LeafPath}

-- the assignment of a path over vs, and s elsewhere
abbrev pub assign : Assignment → List ℕ → LeafPath → Assignment
assign s [] p = s
assign s (v ∷ vs) [] = s
assign s (v ∷ vs) (c ∷ p) = bind v c (assign s vs p)

pub or_true : (a b : Bool) → a ≡ true → (a || b) ≡ true
or_true true b e = refl
or_true false b e = absurd (false≢true e)

pub same_is : (j k : List ℕ) → same j k ≡ true → j ≡ k
same_is [] [] e = refl
same_is [] (y ∷ k) e = absurd (false≢true e)
same_is (x ∷ j) [] e = absurd (false≢true e)
same_is (x ∷ j) (y ∷ k) e = go (eqb x y) refl e (same_is j k)
  where
    go : (b : Bool) → eqb x y ≡ b → cond b (same j k) false ≡ true → (same j k ≡ true → j ≡ k) → (x ∷ j) ≡ (y ∷ k)
    go true q h ih = ap₂ (λ a (l : List ℕ). a ∷ l) (eqb-true x y q) (ih h)
    go false q h ih = absurd (false≢true h)

pub same_self : (k : List ℕ) → same k k ≡ true
same_self [] = refl
same_self (x ∷ k) = ap (λ b. cond b (same k k) false) (eq-eqb x x refl) ∙ same_self k

pub not_there : (v w : ℕ) (vs : List ℕ) → has vs v ≡ false → has vs w ≡ true → eqb v w ≡ false
not_there v w vs no_v yes_w = ne_eqb v w (λ e. true≢false (sym yes_w ∙ ap (has vs) (sym e) ∙ no_v))

-- assignments that agree on variables
abbrev pub Agree : List ℕ → Assignment → Assignment → Type 0
Agree vs s t = (w : ℕ) → has vs w ≡ true → s w ≡ t w

pub map_agree : (vs : List ℕ) (s t : Assignment) → Agree vs s t → map s vs ≡ map t vs
map_agree [] s t h = refl
map_agree (v ∷ vs) s t h = ap₂ (λ a (l : List ℕ). a ∷ l) (h v (ap (λ b. b || has vs v) (eq-eqb v v refl))) (map_agree vs s t (λ w e. h w (or_right (eqb v w) (has vs w) e)))
  where
    or_right : (a b : Bool) → b ≡ true → (a || b) ≡ true
    or_right true b e = refl
    or_right false b e = e

abbrev hd : List ℕ → ℕ
hd [] = 0
hd (x ∷ xs) = x

abbrev tl : List ℕ → List ℕ
tl [] = []
tl (x ∷ xs) = xs

pub agree_map : (vs : List ℕ) (s t : Assignment) → map s vs ≡ map t vs → Agree vs s t
agree_map [] s t e w h = absurd (false≢true h)
agree_map (v ∷ vs) s t e w h = go (eqb v w) refl h (agree_map vs s t (ap tl e) w)
  where
    go : (b : Bool) → eqb v w ≡ b → (b || has vs w) ≡ true → (has vs w ≡ true → s w ≡ t w) → s w ≡ t w
    go true q h1 ih = ap s (sym (eqb-true v w q)) ∙ ap hd e ∙ ap t (eqb-true v w q)
    go false q h1 ih = ih h1

pub bind_other : (v c w : ℕ) (s : Assignment) → eqb v w ≡ false → bind v c s w ≡ s w
bind_other v c w s e = ap (λ b. cond b c (s w)) e

pub bind_same : (v : ℕ) (s : Assignment) → bind v (s v) s ≡ s
bind_same v s = fun_ext λ w. go w (eqb v w) refl
  where
    go : (w : ℕ) (b : Bool) → eqb v w ≡ b → cond b (s v) (s w) ≡ s w
    go w true q = ap s (eqb-true v w q)
    go w false q = refl

-- the left coordinates, read back
pub bound : (left : List ℕ) (k : Key) → Distinct left → length k ≡ length left → map (bind_all left k) left ≡ k
bound [] [] d e = refl
bound [] (c ∷ k) d e = absurd (omega arith)
bound (v ∷ left) [] d e = absurd (omega arith)
bound (v ∷ left) (c ∷ k) d e =
    ap₂ (λ a (l : List ℕ). a ∷ l) (ap (λ b. cond b c (bind_all left k v)) (eq-eqb v v refl))
    (map_agree left (bind v c (bind_all left k)) (bind_all left k) (λ w h. bind_other v c w (bind_all left k) (not_there v w left d.0 h)) ∙ bound left k d.1 (omega arith))

module _ {V : Type 0} (K : Algebra V) (laws : Laws K) (extent : ℕ → ℕ) (dense : ℕ → List ℕ → V) where
  abbrev over : List ℕ → Assignment → (Assignment → V) → V
  over = sum_over K extent dense

  pub over_same : (vs : List ℕ) (s : Assignment) (f g : Assignment → V) → ((t : Assignment) → f t ≡ g t) → over vs s f ≡ over vs s g
  over_same vs s f g h = ap (over vs s) (fun_ext h)

  -- zero at all assignments that agree with s outside vs
  pub over_zero : (vs : List ℕ) (s : Assignment) (f : Assignment → V) → ((t : Assignment) → ((w : ℕ) → has vs w ≡ false → t w ≡ s w) → f t ≡ K.zero) → over vs s f ≡ K.zero
  over_zero [] s f h = h s (λ w e. refl)
  over_zero (v ∷ vs) s f h = total_zeros K laws (λ c. over vs (bind v c s) f) (below 0 (extent v)) (λ c. over_zero vs (bind v c s) f (λ t a. h t (λ w e. keeps c t a w (eqb v w) (has vs w) refl refl e)))
    where
      keeps : (c : ℕ) (t : Assignment) → ((w : ℕ) → has vs w ≡ false → t w ≡ bind v c s w) → (w : ℕ) (b d : Bool) → eqb v w ≡ b → has vs w ≡ d → (b || d) ≡ false → t w ≡ s w
      keeps c t a w true d q r e = absurd (true≢false e)
      keeps c t a w false d q r e = a w (r ∙ e) ∙ bind_other v c w s q

  -- the sum over all paths is the sum over all coordinates
  module _ (left : List ℕ) (k : Key) (f : Assignment → V) where
    abbrev pub picked : Assignment → V
    picked s = cond (same (map s left) k) (f s) K.zero

    pub pick :
        (vs : List ℕ) (s : Assignment) → Distinct vs → map s left ≡ k → ((v : ℕ) → has left v ≡ true → s v < extent v)
        → over vs s picked ≡ over (kept (λ v. not (has left v)) vs) s f
    pick [] s d e lt = ap (λ b. cond b (f s) K.zero) (ap (λ l. same l k) e ∙ same_self k)
    pick (v ∷ vs) s d e lt = go (has left v) refl (λ t e1 lt1. pick vs t d.1 e1 lt1)
      where
        go : (b : Bool) → has left v ≡ b → ((t : Assignment) → map t left ≡ k → ((w : ℕ) → has left w ≡ true → t w < extent w) → over vs t picked ≡ over (kept (λ w. not (has left w)) vs) t f)
            → over (v ∷ vs) s picked ≡ over (cond (not b) (v ∷ kept (λ w. not (has left w)) vs) (kept (λ w. not (has left w)) vs)) s f
        go true q again =
            ap (λ (g : ℕ → V). total K (map g (below 0 (extent v)))) (fun_ext λ c. only c (eqb (s v) c) refl)
            ∙ total_at K laws (λ c. over vs (bind v c s) picked) (s v) 0 (extent v) (omega arith) (omega (arith, lt v q))
            ∙ ap (λ t. over vs t picked) (bind_same v s)
            ∙ again s e lt
          where
            only : (c : ℕ) (b : Bool) → eqb (s v) c ≡ b → over vs (bind v c s) picked ≡ cond b (over vs (bind v c s) picked) K.zero
            only c true r = refl
            only c false r =
                over_zero vs (bind v c s) picked
                (λ t a. wrong t (a v d.0 ∙ ap (λ b. cond b c (s v)) (eq-eqb v v refl)) (same (map t left) k) refl)
              where
                wrong : (t : Assignment) → t v ≡ c → (b : Bool) → same (map t left) k ≡ b → cond b (f t) K.zero ≡ K.zero
                wrong t tv true h = absurd (eqb-false (s v) c r (sym (agree_map left t s (same_is (map t left) k h ∙ sym e) v q) ∙ tv))
                wrong t tv false h = refl
        go false q again =
            ap (λ (g : ℕ → V). total K (map g (below 0 (extent v))))
            (
            fun_ext λ c.
            let off : Agree left (bind v c s) s = λ w h. bind_other v c w s (not_there v w left q h) in
            again (bind v c s) (map_agree left (bind v c s) s off ∙ e) (λ w h. subst (λ n. n < extent w) (sym (off w h)) (lt w h))
            )
