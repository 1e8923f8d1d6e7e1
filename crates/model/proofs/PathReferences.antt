-- What an access holds at a path, and which merged coordinates there are. Assumes nothing.
use Rattle.std.proofs.Common.{◌≡◌, ℕ, suc, ◌+◌, Bool, true, false, cond, ◌||◌, eqb, List, [], ◌∷◌, ◌++◌, map, reverse, length, get_or, Some, None, Option, sym, refl, ap, ◌∙◌, ap₂, inl, inr, true≢false, append_assoc, append-nil, arith}
use mathlib.Core.List.{map-append, reverse-cons}
use Rattle.std.specs.List.{AllByRecursion}
use Rattle.std.proofs.lemmas.Bool.{eq-eqb}
use Rattle.model.specs.Semirings.{Algebra, Laws}
use Rattle.model.specs.Fibers.{Fiber, Level, coords, child, fiber_at}
use Rattle.model.specs.Tensors.{Storage, has, value_at, reached, held_value}
use Rattle.model.specs.Terms.{Access, Expr, nth_access, occurs, kept}
use Rattle.model.specs.Blocks.{in_both, in_either}
use Rattle.model.specs.Running.{nth_level}
use Rattle.model.specs.Lowering.{place}
use Rattle.model.specs.Sums.{Assignment, bind}
use Rattle.model.proofs.Fit.{Distinct, Even}
use Rattle.model.proofs.Variables.{kept_append, has_reverse, has_kept, no_true}
use Rattle.model.proofs.PathTrees.{LeafPath, node, fiber_of, live, value_of, load_of, leaf_coords}
use Rattle.model.proofs.PathSums.{Dead}
use Rattle.model.proofs.DeadPaths.{point, dead}
use Rattle.model.proofs.Assignments.{assign, map_agree, bind_other, not_there}

child_none : (f : Fiber) (c : ℕ) → has (coords f) c ≡ false → child f c ≡ None
child_none [] c h = refl
child_none (x ∷ f) c h = go (eqb x.0 c) h (child_none f c)
  where
    go : (b : Bool) → (b || has (coords f) c) ≡ false → (has (coords f) c ≡ false → child f c ≡ None) → cond b (Some x.1) (child f c) ≡ None
    go true h1 ih = absurd (true≢false h1)
    go false h1 ih = ih h1

reached_snoc : (ls : List Level) (r : Option ℕ) (cs : List ℕ) (c : ℕ) → reached ls r (cs ++ c ∷ []) ≡ child (fiber_at (get_or ls (length cs) []) (reached ls r cs)) c
reached_snoc [] (Some p) [] c = refl
reached_snoc [] None [] c = refl
reached_snoc [] r (x ∷ cs) c = refl
reached_snoc (l ∷ ls) r [] c = refl
reached_snoc (l ∷ ls) r (x ∷ cs) c = reached_snoc ls (child (fiber_at l r) x) cs c

pub place_at : (xs ys : List ℕ) (v : ℕ) → has xs v ≡ false → place (xs ++ v ∷ ys) v ≡ length xs
place_at [] ys v h = ap (λ b. cond b 0 (place ys v + 1)) (eq-eqb v v refl)
place_at (x ∷ xs) ys v h = go (eqb x v) h (place_at xs ys v)
  where
    go : (b : Bool) → (b || has xs v) ≡ false → (has xs v ≡ false → place (xs ++ v ∷ ys) v ≡ length xs) → cond b 0 (place (xs ++ v ∷ ys) v + 1) ≡ suc (length xs)
    go true h1 ih = absurd (true≢false h1)
    go false h1 ih = let e = ih h1 in omega arith

-- the variables of an access among vs, the outermost first
abbrev pub used : Access → List ℕ → List ℕ
used a vs = kept (has a.vars) (reverse vs)

used_cons : (a : Access) (v : ℕ) (vs : List ℕ) → used a (v ∷ vs) ≡ used a vs ++ kept (has a.vars) (v ∷ [])
used_cons a v vs = ap (kept (has a.vars)) (reverse-cons v vs) ∙ kept_append (has a.vars) (reverse vs) (v ∷ [])

module _ {V : Type 0} (K : Algebra V) (T : ℕ → Storage V) (acs : List Access) (body : Expr) where
  -- The reference at a path is the one reached along the coordinates of the access's own variables.
  pub node_reached :
      (a : Access) (s : Assignment) (vs : List ℕ) (p : LeafPath) → length p ≡ length vs → Distinct vs → (ys : List ℕ) → a.vars ≡ used a vs ++ ys
      → node K T acs body a vs p ≡ reached (T a.slot).levels (Some 0) (map (assign s vs p) (used a vs))
  node_reached a s [] p e d ys is = refl
  node_reached a s (v ∷ vs) [] e d ys is = absurd (omega arith)
  node_reached a s (v ∷ vs) (c ∷ p) e d ys is = go (has a.vars v) refl (λ zs is1. node_reached a s vs p (omega arith) d.1 zs is1)
    where
      older : map (assign s (v ∷ vs) (c ∷ p)) (used a vs) ≡ map (assign s vs p) (used a vs)
      older = map_agree (used a vs) (bind v c (assign s vs p)) (assign s vs p) (λ w h. bind_other v c w (assign s vs p) (not_there v w vs d.0 (sym (has_reverse vs w) ∙ has_kept (has a.vars) (reverse vs) w h)))

      unused : has (used a vs) v ≡ false
      unused = no_true (has (used a vs) v) (λ h. true≢false (sym (sym (has_reverse vs v) ∙ has_kept (has a.vars) (reverse vs) v h) ∙ d.0))

      go : (b : Bool) → has a.vars v ≡ b → ((zs : List ℕ) → a.vars ≡ used a vs ++ zs → node K T acs body a vs p ≡ reached (T a.slot).levels (Some 0) (map (assign s vs p) (used a vs)))
          → cond b (child (fiber_at (nth_level T a.slot (place a.vars v)) (node K T acs body a vs p)) c) (node K T acs body a vs p) ≡ reached (T a.slot).levels (Some 0) (map (assign s (v ∷ vs) (c ∷ p)) (used a (v ∷ vs)))
      go true q again =
          let now : used a (v ∷ vs) ≡ used a vs ++ v ∷ [] = used_cons a v vs ∙ ap (λ b. used a vs ++ cond b (v ∷ []) []) q in
          let all : a.vars ≡ used a vs ++ (v ∷ ys) = is ∙ ap (λ (l : List ℕ). l ++ ys) now ∙ append_assoc (used a vs) (v ∷ []) ys in
          let here : place a.vars v ≡ length (map (assign s vs p) (used a vs)) = ap (λ l. place l v) all ∙ place_at (used a vs) ys v unused ∙ sym (lib.ListN.length-map (used a vs) (assign s vs p)) in
          ap₂ (λ n r. child (fiber_at (nth_level T a.slot n) r) c) here (again (v ∷ ys) all)
          ∙ sym (reached_snoc (T a.slot).levels (Some 0) (map (assign s vs p) (used a vs)) c)
          ∙ sym
          (
          ap (reached (T a.slot).levels (Some 0))
          (
          ap (map (assign s (v ∷ vs) (c ∷ p))) now ∙ map-append (assign s (v ∷ vs) (c ∷ p)) (used a vs) (v ∷ [])
          ∙ ap₂ (λ (l : List ℕ) x. l ++ x ∷ []) older (ap (λ b. cond b c (assign s vs p v)) (eq-eqb v v refl))
          )
          )
      go false q again =
          let now : used a (v ∷ vs) ≡ used a vs = used_cons a v vs ∙ ap (λ b. used a vs ++ cond b (v ∷ []) []) q ∙ append-nil (used a vs) in
          again ys (is ∙ ap (λ (l : List ℕ). l ++ ys) now)
          ∙ sym (ap (reached (T a.slot).levels (Some 0)) (ap (map (assign s (v ∷ vs) (c ∷ p))) now ∙ older))

  pub load_held :
      (a : Access) (s : Assignment) (vs : List ℕ) (p : LeafPath) → length p ≡ length vs → Distinct vs → a.vars ≡ used a vs
      → load_of K T acs body vs a p ≡ held_value K.zero (T a.slot) (map (assign s vs p) a.vars)
  load_held a s vs p e d is =
      ap (value_at K.zero (T a.slot).values) (node_reached a s vs p e d [] (is ∙ sym (append-nil (used a vs))) ∙ ap (λ l. reached (T a.slot).levels (Some 0) (map (assign s vs p) l)) (sym is))

  -- a reference that is lost stays lost
  node_none : (a : Access) (v : ℕ) (vs : List ℕ) (c : ℕ) (p : LeafPath) → node K T acs body a vs p ≡ None → node K T acs body a (v ∷ vs) (c ∷ p) ≡ None
  node_none a v vs c p e = go (has a.vars v)
    where
      go : (b : Bool) → cond b (child (fiber_at (nth_level T a.slot (place a.vars v)) (node K T acs body a vs p)) c) (node K T acs body a vs p) ≡ None
      go true = ap (λ r. child (fiber_at (nth_level T a.slot (place a.vars v)) r) c) e
      go false = e

  pub dead_value : (laws : Laws K) (extent : ℕ → ℕ) (ws : List ℕ) (q : LeafPath) → ((v : ℕ) → Even acs v body) → AllByRecursion (λ v. occurs acs v body ≡ true) ws → Dead K laws T acs body extent ws q → value_of K T acs body ws q ≡ K.zero
  dead_value laws extent ws q even occur d =
      let (v, vs, c, p, o, h, lost) = where_dead ws q occur d in
      point K.product K.sum K.zero (λ e. true) (λ i. load_of K T acs body ws (nth_access acs i)) q body
      ∙ Rattle.model.proofs.DeadPaths.dead K laws acs v c (λ i. leaf_coords K T acs body v vs i p) (λ i. load_of K T acs body ws (nth_access acs i) q)
      (
      λ i has_v no_c. ap (value_at K.zero (T (nth_access acs i).slot).values)
      (lost (nth_access acs i) (ap (λ b. cond b (child (fiber_of K T acs body (nth_access acs i) v vs p) c) (node K T acs body (nth_access acs i) vs p)) has_v ∙ child_none (fiber_of K T acs body (nth_access acs i) v vs p) c no_c))
      )
      body (even v) o (sym (ap (λ l. has l c) (point in_both in_either [] (occurs acs v) (leaf_coords K T acs body v vs) p body)) ∙ h)
    where
      where_dead : (us : List ℕ) (r : LeafPath) → AllByRecursion (λ v. occurs acs v body ≡ true) us → Dead K laws T acs body extent us r
          → (v : ℕ) × (vs : List ℕ) × (c : ℕ) × (p : LeafPath) × (occurs acs v body ≡ true) × (has (live K T acs body v vs p) c ≡ false)
          × ((a : Access) → node K T acs body a (v ∷ vs) (c ∷ p) ≡ None → node K T acs body a us r ≡ None)
      where_dead [] r o d1 = absurd d1
      where_dead (v ∷ vs) [] o d1 = absurd d1
      where_dead (v ∷ vs) (c ∷ p) o (inl h) = (v, vs, c, p, o.0, h, λ a e. e)
      where_dead (v ∷ vs) (c ∷ p) o (inr d1) =
          let (v1, vs1, c1, p1, o1, h, lost) = where_dead vs p o.1 d1 in
          (v1, vs1, c1, p1, o1, h, λ a e. node_none a v vs c p (lost a e))
