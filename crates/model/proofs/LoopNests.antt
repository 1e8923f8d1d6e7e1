-- What the commands of all variables do. Assumes nothing.
use Rattle.std.proofs.Common.{◌≡◌, ℕ, zero, suc, ◌<◌, Bool, true, false, cond, ◌||◌, List, [], ◌∷◌, ◌++◌, map, length, get_or, refl, ap, ◌∙◌, ap₂, le_of_suc-le-suc, not-suc-le-zero}
use mathlib.Core.Path.{fun_ext}
use mathlib.Core.List.{map-map, reverse_aux}
use Rattle.model.specs.Semirings.{Algebra, total}
use Rattle.model.specs.Tensors.{Storage, value_at, has}
use Rattle.model.specs.Trees.{Pairwise}
use Rattle.model.specs.Streams.{Stream, values}
use Rattle.model.specs.Terms.{Access, Expr, Parts, last, more, no_access, nth_access, occurs, occurs_in}
use Rattle.model.specs.Commands.{Command, MEET, JOIN, MUL, ADD, LOAD, SUM}
use Rattle.model.specs.Blocks.{loaded, combined, summed}
use Rattle.model.specs.Running.{Table, step, nth_stream}
use Rattle.model.specs.Lowering.{pure, then, emit, for_each, merge, Cursor, scan, advance, no_scan, variable, loop, load, sums}
use Rattle.model.specs.Shapes.{Fits, Combinable}
use Rattle.model.proofs.Fit.{Placed}
use Rattle.model.proofs.Fusion.{each_each, beside_each}
use Rattle.model.proofs.ImageShapes.{same_shape}
use Rattle.model.proofs.Soundness.{made, sound_weaker, Grows, StreamIs, stream_on, state, Sound, sound_pure, sound_then, sound_emit, sound_for_each, pairwise_on}
use Rattle.model.proofs.MergeMeaning.{Does, some_counts, meant, sound_merge}
use Rattle.model.proofs.PathTrees.{LeafPath, node, live, tree, over, meet_of, join_of, no_coords, leaf_coords}
use Rattle.model.proofs.BlockSteps.{AllAscend, coords_over, does_meet, does_join, Standing, standing_on, Seen, seen_on, sound_scan, sound_advance}

pub pairwise_at : {A B : Type 0} (R : A → B → Type 0) (xs : List A) (ys : List B) (d : A) (d1 : B) (i : ℕ) → i < length xs → Pairwise R xs ys → R (get_or xs i d) (get_or ys i d1)
pairwise_at R [] ys d d1 i lt h = absurd (not-suc-le-zero lt)
pairwise_at R (x ∷ xs) [] d d1 i lt h = absurd h
pairwise_at R (x ∷ xs) (y ∷ ys) d d1 zero lt h = h.0
pairwise_at R (x ∷ xs) (y ∷ ys) d d1 (suc i) lt h = pairwise_at R xs ys d d1 i (le_of_suc-le-suc lt) h.1

occurs_some : (acs : List Access) (v : ℕ) (ps : Parts) → some_counts (occurs acs v) ps ≡ occurs_in acs v ps
occurs_some acs v (last e) = refl
occurs_some acs v (more e ps) = ap (λ b. occurs acs v e || b) (occurs_some acs v ps)

module _ {V : Type 0} (K : Algebra V) (T : ℕ → Storage V) (acs : List Access) (body : Expr) (placed : Placed (length acs) body) where
  pub sound_variable :
      (vs : List ℕ) (v : ℕ) (cs : List Cursor) (n : ℕ) (ss : List (Stream V)) → n ≡ length ss → occurs acs v body ≡ true → Pairwise (Standing K T acs body ss vs) acs cs
      → Sound K T (variable acs body v cs n) ss (λ ss1 r. StreamIs K T ss1 r.0 (coords_over K T acs body vs (live K T acs body v vs)) × Pairwise (Standing K T acs body ss1 (v ∷ vs)) acs r.1)
  sound_variable vs v cs n ss e has_v h =
      sound_then K T (for_each (scan v) cs) _ n
      (sound_for_each K T (scan v) (λ ss1. Standing K T acs body ss1 vs) (λ ss1 a s. Seen K T acs body ss1 vs v (has a.vars v) a s) (standing_on K T acs body vs) (seen_on K T acs body vs v) (sound_scan K T acs body vs v) acs cs n ss e h)
      (
      λ ss₁ sc k₁ e₁ grew₁ seen.
      sound_then K T (merge MEET JOIN (occurs acs v) (λ i. (get_or sc i no_scan).crd) body) _ k₁
      (
      sound_merge K T (coords_over K T acs body vs) (AllAscend K T acs body) MEET JOIN (meet_of K T acs body) (join_of K T acs body) (no_coords K T acs body) (does_meet K T acs body vs) (does_join K T acs body vs)
      (occurs acs v) (λ ps o. occurs_some acs v ps ∙ o) (λ ps o. occurs_some acs v ps ∙ o) (λ i. (get_or sc i no_scan).crd) (leaf_coords K T acs body v vs) (length acs)
      body placed has_v k₁ ss₁ e₁
      (
      λ i lt o.
      let here = pairwise_at (λ a s. Seen K T acs body ss₁ vs v (has a.vars v) a s) acs sc no_access no_scan i lt seen in
      (here.crd o, λ p. here.ascends v o (node K T acs body (nth_access acs i) vs p))
      )
      )
      (
      λ ss₂ z k₂ e₂ grew₂ hz.
      sound_then K T (for_each (advance v z) sc) (λ cs1. pure (z, cs1)) k₂
      (
      sound_for_each K T (advance v z)
      (λ ss1 a s. Seen K T acs body ss1 vs v (has a.vars v) a s × StreamIs K T ss1 z (coords_over K T acs body vs (live K T acs body v vs)) × AllAscend K T acs body (live K T acs body v vs))
      (λ ss1. Standing K T acs body ss1 (v ∷ vs))
      (λ ss1 ss2 g a s q. (seen_on K T acs body vs v ss1 ss2 g a s q.0, stream_on K T g q.1, q.2)) (standing_on K T acs body (v ∷ vs)) (sound_advance K T acs body vs v z)
      acs sc k₂ ss₂ e₂ (pairwise_on (λ a s q. (seen_on K T acs body vs v ss₁ ss₂ grew₂ a s q, hz.0, hz.1)) acs sc seen)
      )
      (λ ss₃ cs1 k₃ e₃ grew₃ now. sound_pure K T (z, cs1) k₃ ss₃ _ e₃ (stream_on K T grew₃ hz.0, now))
      )
      )

  -- the merged coordinate streams, the innermost first
  abbrev pub Merged : List (Stream V) → List ℕ → List ℕ → Type 0
  Merged ss [] [] = Unit {0}
  Merged ss [] (z ∷ zs) = ⊥
  Merged ss (v ∷ vs) [] = ⊥
  Merged ss (v ∷ vs) (z ∷ zs) = StreamIs K T ss z (coords_over K T acs body vs (live K T acs body v vs)) × Merged ss vs zs

  pub merged_on : (ss ss1 : List (Stream V)) → Grows ss ss1 → (vs zs : List ℕ) → Merged ss vs zs → Merged ss1 vs zs
  merged_on ss ss1 g [] [] h = tt
  merged_on ss ss1 g [] (z ∷ zs) h = absurd h
  merged_on ss ss1 g (v ∷ vs) [] h = absurd h
  merged_on ss ss1 g (v ∷ vs) (z ∷ zs) h = (stream_on K T g h.0, merged_on ss ss1 g vs zs h.1)

  abbrev pub AllOccur : List ℕ → Type 0
  AllOccur [] = Unit {0}
  AllOccur (v ∷ vs) = (occurs acs v body ≡ true) × AllOccur vs

  pub sound_loop :
      (vs zs ws : List ℕ) (cs : List Cursor) (n : ℕ) (ss : List (Stream V)) → n ≡ length ss → AllOccur ws → Merged ss vs zs → Pairwise (Standing K T acs body ss vs) acs cs
      → Sound K T (loop acs body zs ws cs n) ss (λ ss1 r. Merged ss1 (reverse_aux ws vs) r.0 × Pairwise (Standing K T acs body ss1 (reverse_aux ws vs)) acs r.1)
  sound_loop vs zs [] cs n ss e o m h = sound_pure K T (zs, cs) n ss _ e (m, h)
  sound_loop vs zs (w ∷ ws) cs n ss e o m h =
      sound_then K T (variable acs body w cs) (λ r. loop acs body (r.0 ∷ zs) ws r.1) n (sound_variable vs w cs n ss e o.0 h)
      (λ ss1 r k e1 grew now. sound_loop (w ∷ vs) (r.0 ∷ zs) ws r.1 k ss1 e1 o.1 (now.0, merged_on ss ss1 grew vs zs m) now.1)

  -- values over the paths
  abbrev pub values_over : List ℕ → (LeafPath → V) → Stream V
  values_over vs f = values (length vs) (over K T acs body vs f)

  -- the value of an access at a path
  abbrev pub load_of : List ℕ → Access → LeafPath → V
  load_of vs a p = value_at K.zero (T a.slot).values (node K T acs body a vs p)

  sound_load :
      (vs : List ℕ) (a : Access) (c : Cursor) (n : ℕ) (ss : List (Stream V)) → n ≡ length ss → Standing K T acs body ss vs a c
      → Sound K T (load c n) ss (λ ss1 x. StreamIs K T ss1 x (values_over vs (load_of vs a)))
  sound_load vs a c n ss e h =
      sound_emit K T (LOAD c.of.slot c.ref) (values_over vs (load_of vs a)) n ss _ e (record { depth = length vs; tree = over K T acs body vs (node K T acs body a vs); is = made K T h.here }, e)
      (
      λ t. ap (λ s. state K T (ss ++ s ∷ []) t)
      (
      ap₂ (λ (x : Access) s. loaded K (T x.slot).values s) h.same h.here.is
      ∙ ap (values (length vs)) (each_each (value_at K.zero (T a.slot).values) (node K T acs body a vs) (length vs) (tree K T acs body vs))
      )
      )
      (λ grew holds. holds)

  -- MUL and ADD
  abbrev pub product_at : (LeafPath → V) → (LeafPath → V) → LeafPath → V
  product_at f g p = K.product (f p) (g p)

  abbrev pub sum_at : (LeafPath → V) → (LeafPath → V) → LeafPath → V
  sum_at f g p = K.sum (f p) (g p)

  -- no more is asked of values
  abbrev pub Any : (LeafPath → V) → Type 0
  Any f = Unit {0}

  does_values : (c : ℕ → ℕ → ℕ → Command) (f : V → V → V) (vs : List ℕ)
      → ((ss : List (Stream V)) (a b n : ℕ) (t : Table V) → step K T (c a b n) (state K T ss t) ≡ state K T (ss ++ combined K f (nth_stream ss a) (nth_stream ss b) ∷ []) t)
      → ((ss : List (Stream V)) (a b n : ℕ) → Combinable ss a b → n ≡ length ss → Fits (c a b n) ss)
      → Does K T (values_over vs) Any c (λ g h p. f (g p) (h p))
  does_values c f vs steps fits =
      record {
        steps = λ ss a b n g h ma mb t.
            steps ss a b n t
            ∙ ap (λ s. state K T (ss ++ s ∷ []) t)
            (ap₂ (combined K f) ma.0.is mb.0.is ∙ ap (values (length vs)) (beside_each f K.zero g h (length vs) (tree K T acs body vs)));
        fits = λ ss a b n g h e ma mb.
            fits ss a b n
            (
            record {
              depth = length vs;
              first = over K T acs body vs g;
              second = over K T acs body vs h;
              first_is = made K T ma.0;
              second_is = made K T mb.0;
              shape = same_shape g h (length vs) (tree K T acs body vs);
            }
            )
            e;
        keeps = λ g h okg okh. tt;
      }

  -- the value of the term's expression at a path
  abbrev pub value_of : List ℕ → LeafPath → V
  value_of vs = meant product_at sum_at (λ p. K.zero) (λ e. true) (λ i. load_of vs (nth_access acs i)) body

  some_true : (ps : Parts) → some_counts (λ e. true) ps ≡ true
  some_true (last e) = refl
  some_true (more e ps) = refl

  pub sound_values :
      (vs : List ℕ) (cs : List Cursor) (n : ℕ) (ss : List (Stream V)) → n ≡ length ss → Pairwise (Standing K T acs body ss vs) acs cs
      → Sound K T (then (for_each load cs) (λ xs. merge MUL ADD (λ e. true) (λ i. get_or xs i 0) body) n) ss (λ ss1 x. StreamIs K T ss1 x (values_over vs (value_of vs)))
  sound_values vs cs n ss e h =
      sound_then K T (for_each load cs) (λ xs. merge MUL ADD (λ e. true) (λ i. get_or xs i 0) body) n
      (sound_for_each K T load (λ ss1. Standing K T acs body ss1 vs) (λ ss1 a x. StreamIs K T ss1 x (values_over vs (load_of vs a))) (standing_on K T acs body vs) (λ ss₁ ss₂ g a x q. stream_on K T g q) (sound_load vs) acs cs n ss e h)
      (
      λ ss1 xs k e1 grew now.
      sound_weaker K T (λ ss2 x m. m.0)
      (
      sound_merge K T (values_over vs) Any MUL ADD product_at sum_at (λ p. K.zero)
      (does_values MUL K.product vs (λ _ _ _ _ _. refl) (λ ss2 a b m c e2. (c, e2))) (does_values ADD K.sum vs (λ _ _ _ _ _. refl) (λ ss2 a b m c e2. (c, e2)))
      (λ e. true) (λ ps o. some_true ps) (λ ps o. some_true ps) (λ i. get_or xs i 0) (λ i. load_of vs (nth_access acs i)) (length acs)
      body placed refl k ss1 e1 (λ i lt o. (pairwise_at (λ a x. StreamIs K T ss1 x (values_over vs (load_of vs a))) acs xs no_access 0 i lt now, tt))
      )
      )

  -- SUM while the innermost variable is reduced: the variables left over, and the sums
  abbrev pub rest : List ℕ → List ℕ → List ℕ
  rest left [] = []
  rest left (v ∷ vs) = cond (has left v) (v ∷ vs) (rest left vs)

  abbrev pub sum_of : ℕ → List ℕ → (LeafPath → V) → LeafPath → V
  sum_of v vs f p = total K (map (λ c. f (c ∷ p)) (live K T acs body v vs p))

  -- the streams after the sums
  pub record SummedDown (ss : List (Stream V)) (vs : List ℕ) (g : LeafPath → V) (r : ℕ × List ℕ × List ℕ) : Type 0 where
    pub vars : r.2 ≡ vs
    pub nested : Merged ss vs r.1
    pub added : StreamIs K T ss r.0 (values_over vs g)

  -- g is f summed over the innermost reduced variables
  abbrev pub sum_down : (left vs : List ℕ) → (LeafPath → V) → LeafPath → V
  sum_down left [] f = f
  sum_down left (v ∷ vs) f = cond (has left v) f (sum_down left vs (sum_of v vs f))

  pub sound_sums :
      (left vs zs : List ℕ) (f : LeafPath → V) (x n : ℕ) (ss : List (Stream V)) → n ≡ length ss → Merged ss vs zs → StreamIs K T ss x (values_over vs f)
      → Sound K T (sums left vs zs x n) ss (λ ss1 r. SummedDown ss1 (rest left vs) (sum_down left vs f) r)
  sound_sums left [] [] f x n ss e m h = sound_pure K T (x, [], []) n ss (λ ss1 r. SummedDown ss1 [] f r) e (record { vars = refl; nested = m; added = h })
  sound_sums left [] (z ∷ zs) f x n ss e m h = absurd m
  sound_sums left (v ∷ vs) [] f x n ss e m h = absurd m
  sound_sums left (v ∷ vs) (z ∷ zs) f x n ss e m h = go (has left v) (λ k ss1 x1 e1 m1 h1. sound_sums left vs zs (sum_of v vs f) x1 k ss1 e1 m1 h1)
    where
      add_up : summed K (values_over (v ∷ vs) f) ≡ values_over vs (sum_of v vs f)
      add_up =
          ap (values (length vs))
          (
          each_each (total K) (map f) (length vs) (tree K T acs body (v ∷ vs))
          ∙ each_each (λ xs. total K (map f xs)) (λ p. map (λ c. c ∷ p) (live K T acs body v vs p)) (length vs) (tree K T acs body vs)
          ∙ ap (λ g. over K T acs body vs g) (fun_ext λ p. ap (total K) (map-map f (λ c. c ∷ p) (live K T acs body v vs p)))
          )

      go : (b : Bool)
          → ((k : ℕ) (ss1 : List (Stream V)) (x1 : ℕ) → k ≡ length ss1 → Merged ss1 vs zs → StreamIs K T ss1 x1 (values_over vs (sum_of v vs f)) → Sound K T (sums left vs zs x1 k) ss1 (λ ss2 r. SummedDown ss2 (rest left vs) (sum_down left vs (sum_of v vs f)) r))
          → Sound K T (cond b (pure (x, z ∷ zs, v ∷ vs)) (then (emit (SUM x)) (λ b. sums left vs zs b)) n) ss (λ ss1 r. SummedDown ss1 (cond b (v ∷ vs) (rest left vs)) (cond b f (sum_down left vs (sum_of v vs f))) r)
      go true again = sound_pure K T (x, z ∷ zs, v ∷ vs) n ss (λ ss1 r. SummedDown ss1 (v ∷ vs) f r) e (record { vars = refl; nested = m; added = h })
      go false again =
          sound_then K T (emit (SUM x)) (λ b. sums left vs zs b) n
          (sound_emit K T (SUM x) (values_over vs (sum_of v vs f)) n ss (λ ss1 y. StreamIs K T ss1 y (values_over vs (sum_of v vs f))) e (record { depth = length vs; tree = over K T acs body (v ∷ vs) f; is = made K T h }, e) (λ t. ap (λ s. state K T (ss ++ s ∷ []) t) (ap (summed K) h.is ∙ add_up)) (λ grew holds. holds))
          (λ ss1 y k e1 grew now. again k ss1 y e1 (merged_on ss ss1 grew vs zs m.1) now)
