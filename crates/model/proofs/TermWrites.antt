-- What the commands of a line add to the result table. Assumes nothing.
use Rattle.std.proofs.Common.{◌≡◌, ℕ, suc, ◌+◌, Bool, true, false, cond, List, [], ◌∷◌, ◌++◌, map, reverse, length, Some, sym, refl, ap, ◌∙◌, subst, append-nil}
use mathlib.Core.List.{map-append, reverse-cons}
use Rattle.std.specs.List.{flat_map, AllByRecursion}
use Rattle.model.specs.Semirings.{Algebra}
use Rattle.model.specs.Tensors.{has, Storage}
use Rattle.model.specs.Trees.{Tree, beside, gathered, Pairwise}
use Rattle.model.specs.Streams.{Stream, references}
use Rattle.model.specs.Terms.{Access, Expr, Term, Line, kept, variables, occurs}
use Rattle.model.specs.Commands.{WRITE, ROOT}
use Rattle.model.specs.Blocks.{Key, coordinate_fibers, value_tree, paths, key, leaf_entries}
use Rattle.model.specs.Running.{nothing_yet, Table, State, run, nth_stream, insert, inserts}
use Rattle.model.specs.Lowering.{Lowered, Lower, pure, then, emit, for_each, place, start, loop, evaluate, sums, write, lower_term, lowered}
use Rattle.model.specs.Shapes.{Fits, AllFit}
use Rattle.model.proofs.Fit.{Placed}
use Rattle.model.proofs.Fusion.{beside_each, each_id, gathered_each}
use Rattle.model.proofs.Soundness.{fit_append, Grows, grows_refl, grows_trans, StreamIs, state, Sound, sound_pure, sound_then, sound_emit, sound_for_each, run_append}
use Rattle.model.proofs.PathTrees.{LeafPath, live, tree, over, entries_at, over_vars, entries}
use Rattle.model.proofs.BlockSteps.{AccessAscends, Standing, standing_on}
use Rattle.model.proofs.LoopNests.{Merged, AllOccur, sound_loop, values_over, sound_values, sound_sums}
use Rattle.model.proofs.NestedStreams.{write_fits}

pairwise_self : {A : Type 0} (P : A → Type 0) (xs : List A) → AllByRecursion P xs → Pairwise (λ (a b : A). (b ≡ a) × P a) xs xs
pairwise_self P [] h = tt
pairwise_self P (x ∷ xs) h = ((refl, h.0), pairwise_self P xs h.1)

module _ {V : Type 0} (K : Algebra V) (T : ℕ → Storage V) where
  -- These commands, run over ss, add streams and put new entries into the table, and each fits.
  pub record Wrote {A : Type 0} (r : Lowered A) (ss : List (Stream V)) (new : List (Key × V)) : Type 0 where
    pub final : List (Stream V)
    pub grows : Grows ss final
    pub runs : (t : Table V) → run K T r.commands (state K T ss t) ≡ state K T final (inserts K new t)
    pub fits : (t : Table V) → AllFit K T r.commands (state K T ss t)
    pub next : r.next ≡ length final

  wrote_then :
      {A B : Type 0} (m : Lower A) (f : A → Lower B) (n : ℕ) {ss : List (Stream V)} {post : List (Stream V) → A → Type 0} {new : List (Key × V)}
      → Sound K T (m n) ss post
      → ((ss1 : List (Stream V)) (a : A) (k : ℕ) → k ≡ length ss1 → Grows ss ss1 → post ss1 a → Wrote (f a k) ss1 new)
      → Wrote (then m f n) ss new
  wrote_then m f n {ss} one two =
      let more = two one.final (m n).result (m n).next one.next one.grows one.after in
      record {
        final = more.final;
        grows = grows_trans one.grows more.grows;
        runs = λ t. run_append K T (m n).commands (f (m n).result (m n).next).commands (state K T ss t) ∙ ap (run K T (f (m n).result (m n).next).commands) (one.runs t) ∙ more.runs t;
        fits = λ t. fit_append K T (m n).commands (f (m n).result (m n).next).commands (state K T ss t) (one.fits t) (subst (AllFit K T (f (m n).result (m n).next).commands) (sym (one.runs t)) (more.fits t));
        next = more.next;
      }

  inserts_append : (xs ys : List (Key × V)) (t : Table V) → inserts K (xs ++ ys) t ≡ inserts K ys (inserts K xs t)
  inserts_append [] ys t = refl
  inserts_append (x ∷ xs) ys t = inserts_append xs ys (insert K x.0 x.1 t)

  wrote_twice :
      {A B : Type 0} (m : Lower A) (f : A → Lower B) (n : ℕ) {ss : List (Stream V)} (new added : List (Key × V))
      → Wrote (m n) ss new
      → ((ss1 : List (Stream V)) (a : A) (k : ℕ) → k ≡ length ss1 → Wrote (f a k) ss1 added)
      → Wrote (then m f n) ss (new ++ added)
  wrote_twice m f n {ss} new added one two =
      let more = two one.final (m n).result (m n).next one.next in
      record {
        final = more.final;
        grows = grows_trans one.grows more.grows;
        runs =
            λ t. run_append K T (m n).commands (f (m n).result (m n).next).commands (state K T ss t)
            ∙ ap (run K T (f (m n).result (m n).next).commands) (one.runs t) ∙ more.runs (inserts K new t)
            ∙ ap (state K T more.final) (sym (inserts_append new added t));
        fits = λ t. fit_append K T (m n).commands (f (m n).result (m n).next).commands (state K T ss t) (one.fits t) (subst (AllFit K T (f (m n).result (m n).next).commands) (sym (one.runs t)) (more.fits (inserts K new t)));
        next = more.next;
      }

  wrote_pure : {A : Type 0} (a : A) (n : ℕ) (ss : List (Stream V)) → n ≡ length ss → Wrote (pure a n) ss []
  wrote_pure a n ss e = record { final = ss; grows = grows_refl ss; runs = λ t. refl; fits = λ t. tt; next = e }

  module _ (acs : List Access) (body : Expr) (placed : Placed (length acs) body) where
    abbrev extended : (d : ℕ) × Tree (List ℕ) d → Stream V → (d : ℕ) × Tree (List ℕ) d
    extended q z = (suc q.0, beside (λ p cs. map (λ c. c ∷ p) cs) [] q.0 (coordinate_fibers z).0 q.1 (coordinate_fibers z).1)

    paths_snoc : (d : ℕ) (t : Tree (List ℕ) d) (zs : List (Stream V)) (z : Stream V) → paths d t (zs ++ z ∷ []) ≡ extended (paths d t zs) z
    paths_snoc d t [] z = refl
    paths_snoc d t (y ∷ zs) z = paths_snoc (suc d) (beside (λ p cs. map (λ c. c ∷ p) cs) [] d (coordinate_fibers y).0 t (coordinate_fibers y).1) zs z

    abbrev all_paths : (vs : List ℕ) → (d : ℕ) × Tree (List ℕ) d
    all_paths vs = (length vs, tree K T acs body vs)

    -- the coordinate streams lead along the paths
    paths_are : (ss : List (Stream V)) (vs zs : List ℕ) → Merged K T acs body placed ss vs zs → paths 0 [] (map (nth_stream ss) (reverse zs)) ≡ all_paths vs
    paths_are ss [] [] m = refl
    paths_are ss [] (z ∷ zs) m = absurd m
    paths_are ss (v ∷ vs) [] m = absurd m
    paths_are ss (v ∷ vs) (z ∷ zs) m =
        ap (λ l. paths 0 [] (map (nth_stream ss) l)) (reverse-cons z zs)
        ∙ ap (paths 0 []) (map-append (nth_stream ss) (reverse zs) (z ∷ []))
        ∙ paths_snoc 0 [] (map (nth_stream ss) (reverse zs)) (nth_stream ss z)
        ∙ (λ i. extended (paths_are ss vs zs m.1 i) (m.0.is i))
        ∙ ap {B = (d : ℕ) × Tree (List ℕ) d} (λ t. (suc (length vs), t))
        (
        ap (λ t. beside (λ p cs. map (λ c. c ∷ p) cs) [] (length vs) (length vs) t (over K T acs body vs (live K T acs body v vs))) (sym (each_id LeafPath (length vs) (tree K T acs body vs)))
        ∙ beside_each (λ p cs. map (λ c. c ∷ p) cs) [] (λ p. p) (live K T acs body v vs) (length vs) (tree K T acs body vs)
        )

    entries_are :
        (ss : List (Stream V)) (depths vs zs : List ℕ) (f : LeafPath → V) (x : ℕ) → Merged K T acs body placed ss vs zs → StreamIs K T ss x (values_over K T acs body placed vs f)
        → leaf_entries K.zero (nth_stream ss x) (map (nth_stream ss) (reverse zs)) depths ≡ entries_at K T acs body depths vs f
    entries_are ss depths vs zs f x m h =
        (λ i. gathered (λ y. y ∷ []) (value_tree K.zero (h.is i)).0 (beside (λ y q. (key depths q, y)) ([], K.zero) (value_tree K.zero (h.is i)).0 (paths_are ss vs zs m i).0 (value_tree K.zero (h.is i)).1 (paths_are ss vs zs m i).1))
        ∙ ap (gathered (λ y. y ∷ []) (length vs))
        (
        ap (beside (λ y q. (key depths q, y)) ([], K.zero) (length vs) (length vs) (over K T acs body vs f)) (sym (each_id LeafPath (length vs) (tree K T acs body vs)))
        ∙ beside_each (λ y q. (key depths q, y)) ([], K.zero) f (λ p. p) (length vs) (tree K T acs body vs)
        )
        ∙ gathered_each (λ y. y ∷ []) (λ p. (key depths p, f p)) (length vs) (tree K T acs body vs)

    sound_start : (a x : Access) (n : ℕ) (ss : List (Stream V)) → n ≡ length ss → (x ≡ a) × AccessAscends T a → Sound K T (start x n) ss (λ ss1 c. Standing K T acs body ss1 [] a c)
    sound_start a x n ss e same =
        sound_then K T (emit ROOT) (λ r. pure (record { of = x; ref = r })) n
        (sound_emit K T ROOT (references 0 (Some 0)) n ss (λ ss1 r. StreamIs K T ss1 r (references 0 (Some 0))) e e (λ t. refl) (λ grew holds. holds))
        (λ ss1 r k e1 grew now. sound_pure K T (record { of = x; ref = r }) k ss1 (λ ss2 c. Standing K T acs body ss2 [] a c) e1 (record { same = same.0; ascends = same.1; here = now }))

    kept_occur : (order : List ℕ) → AllOccur K T acs body placed (kept (λ v. occurs acs v body) order)
    kept_occur [] = tt
    kept_occur (v ∷ order) = go (occurs acs v body) refl (kept_occur order)
      where
        go : (b : Bool) → occurs acs v body ≡ b → AllOccur K T acs body placed (kept (λ w. occurs acs w body) order) → AllOccur K T acs body placed (cond b (v ∷ kept (λ w. occurs acs w body) order) (kept (λ w. occurs acs w body) order))
        go true e more = (e, more)
        go false e more = more

  -- what is asked of a term whose commands fit
  pub record Writable (left order : List ℕ) (t : Term) : Type 0 where
    pub placed : Placed (length t.accesses) t.body
    pub ascends : AllByRecursion (AccessAscends T) t.accesses
    pub lefts : (w : ℕ) → has left w ≡ true → has (over_vars K T left order t) w ≡ true

  module _ (left order : List ℕ) (t : Term) (ok : Writable left order t) where
    placed : Placed (length t.accesses) t.body
    placed = ok.placed

    pub wrote_term : (n : ℕ) (ss : List (Stream V)) → n ≡ length ss → Wrote (lower_term left order t n) ss (entries K T left order t)
    wrote_term n ss e =
        wrote_then (for_each start t.accesses) _ n
        (sound_for_each K T start (λ ss1 a x. (x ≡ a) × AccessAscends T a) (λ ss1. Standing K T t.accesses t.body ss1 []) (λ _ _ _ _ _ q. q) (standing_on K T t.accesses t.body []) (sound_start t.accesses t.body placed) t.accesses t.accesses n ss e (pairwise_self (AccessAscends T) t.accesses ok.ascends))
        (
        λ ss₁ cs k₁ e₁ g₁ h₁.
        wrote_then (loop t.accesses t.body [] (variables order t) cs) _ k₁
        (sound_loop K T t.accesses t.body placed [] [] (variables order t) cs k₁ ss₁ e₁ (kept_occur t.accesses t.body placed order) tt h₁)
        (
        λ ss₂ r k₂ e₂ g₂ h₂.
        wrote_then (evaluate t.body r.1) _ k₂
        (sound_values K T t.accesses t.body placed (reverse (variables order t)) r.1 k₂ ss₂ e₂ h₂.1)
        (
        λ ss₃ x k₃ e₃ g₃ h₃.
        wrote_then (sums left (reverse (variables order t)) r.0 x) (write left) k₃
        (sound_sums K T t.accesses t.body placed left (reverse (variables order t)) r.0 _ x k₃ ss₃ e₃ (Rattle.model.proofs.LoopNests.merged_on K T t.accesses t.body placed ss₂ ss₃ g₃ (reverse (variables order t)) r.0 h₂.0) h₃)
        (λ ss₄ q k₄ e₄ g₄ h₄. record {
          final = ss₄;
          grows = grows_refl ss₄;
          runs = λ tb.
              ap (λ l. state K T l (inserts K (leaf_entries K.zero (nth_stream ss₄ q.0) (map (nth_stream ss₄) (reverse q.1)) (map (λ v. place (reverse q.2) v + 1) left)) tb)) (append-nil ss₄)
              ∙ ap (λ vs. state K T ss₄ (inserts K (leaf_entries K.zero (nth_stream ss₄ q.0) (map (nth_stream ss₄) (reverse q.1)) (map (λ v. place (reverse vs) v + 1) left)) tb)) h₄.vars
              ∙ ap (λ new. state K T ss₄ (inserts K new tb)) (entries_are t.accesses t.body placed ss₄ _ (over_vars K T left order t) q.1 _ q.0 h₄.nested h₄.added);
          fits = λ tb. (subst (λ ws. Fits (WRITE (length ws) q.0 (reverse q.1) (map (λ v. place (reverse ws) v + 1) left)) ss₄) (sym h₄.vars) (write_fits K T t.accesses t.body placed ss₄ left (over_vars K T left order t) q.1 _ q.0 h₄.nested h₄.added ok.lefts), tt);
          next = e₄;
        })
        )
        )
        )

  wrote_terms : (left order : List ℕ) (ts : List Term) → AllByRecursion (Writable left order) ts → (n : ℕ) (ss : List (Stream V)) → n ≡ length ss → Wrote (for_each (lower_term left order) ts n) ss (flat_map (entries K T left order) ts)
  wrote_terms left order [] p n ss e = wrote_pure [] n ss e
  wrote_terms left order (t ∷ ts) p n ss e =
      wrote_twice (lower_term left order t) (λ b. then (for_each (lower_term left order) ts) (λ bs. pure (b ∷ bs))) n (entries K T left order t) (flat_map (entries K T left order) ts)
      (wrote_term left order t p.0 n ss e)
      (λ ss1 b k e1. subst (Wrote (then (for_each (lower_term left order) ts) (λ bs. pure (b ∷ bs)) k) ss1) (append-nil (flat_map (entries K T left order) ts)) (wrote_twice (for_each (lower_term left order) ts) (λ bs. pure (b ∷ bs)) k (flat_map (entries K T left order) ts) [] (wrote_terms left order ts p.1 k ss1 e1) (λ ss2 bs k1 e2. wrote_pure (b ∷ bs) k1 ss2 e2)))

  -- A line's commands put these entries into the table, and each fits at its turn.
  pub line_writes : (l : Line) → AllByRecursion (Writable l.left l.order) l.terms → (run K T (lowered l) nothing_yet).table ≡ inserts K (flat_map (entries K T l.left l.order) l.terms) []
  line_writes l p = ap (λ (s : State V). s.table) ((wrote_terms l.left l.order l.terms p 0 [] refl).runs [])

  pub line_fits : (l : Line) → AllByRecursion (Writable l.left l.order) l.terms → AllFit K T (lowered l) nothing_yet
  line_fits l p = (wrote_terms l.left l.order l.terms p 0 [] refl).fits []
