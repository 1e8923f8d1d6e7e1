-- What the commands of one variable do: streams over the paths become streams over the longer paths. Assumes nothing.
use Rattle.std.proofs.Common.{◌≡◌, ℕ, suc, ◌+◌, Bool, true, false, cond, eqb, List, [], ◌∷◌, ◌++◌, map, length, Some, None, Option, sym, refl, ap, ◌∙◌, subst, ap₂, arith, length-append}
use mathlib.Core.Path.{fun_ext}
use mathlib.Core.Bool.{false≢true}
use mathlib.Core.List.{map-map}
use Rattle.model.specs.Semirings.{Algebra}
use Rattle.model.specs.Fibers.{Ascends, Level, Fiber, fiber_at, coords, child}
use Rattle.model.specs.Tensors.{Storage, has}
use Rattle.model.specs.Trees.{Pairwise, beside}
use Rattle.model.specs.Streams.{Stream, coordinates, references}
use Rattle.model.specs.Terms.{Access, Expr}
use Rattle.model.specs.Commands.{Command, SCAN, ALIGN, REPEAT, MEET, JOIN}
use Rattle.model.specs.Blocks.{in_both, in_either, standing, scanned_coordinates, scanned_children, merged, aligned, repeated}
use Rattle.model.specs.Running.{nth_stream, Table, step, nth_level}
use Rattle.model.specs.Lowering.{pure, emit, place, Cursor, Scanned, scan, advance}
use Rattle.model.specs.Shapes.{Fits, Mergeable}
use Rattle.model.proofs.Fusion.{each_each, beside_each}
use Rattle.model.proofs.ImageShapes.{alike_each, same_shape, every_each, two_images}
use Rattle.model.proofs.MergedLists.{ascends_both, ascends_either}
use Rattle.model.proofs.Soundness.{made, Grows, StreamIs, stream_on, stream_new, state, Sound, sound_pure, sound_then, sound_emit}
use Rattle.model.proofs.MergeMeaning.{Does}
use Rattle.model.proofs.PathTrees.{child_references, LeafPath, node, fiber_of, live, tree, over, meet_of, join_of}

standing_child : (f : Fiber) (c : ℕ) → standing (coords f) (child_references f) c ≡ child f c
standing_child [] c = refl
standing_child (x ∷ xs) c = ap (cond (eqb x.0 c) (Some x.1)) (standing_child xs c)

-- the fibers of an access's levels ascend
abbrev pub AccessAscends : {V : Type 0} → (ℕ → Storage V) → Access → Type 0
AccessAscends T a = (v : ℕ) → has a.vars v ≡ true → (r : Option ℕ) → Ascends (coords (fiber_at (nth_level T a.slot (place a.vars v)) r))

module _ {V : Type 0} (K : Algebra V) (T : ℕ → Storage V) (acs : List Access) (body : Expr) where
  abbrev pub references_of : List ℕ → Access → Stream V
  references_of vs a = references (length vs) (over K T acs body vs (node K T acs body a vs))

  abbrev pub coords_over : List ℕ → (LeafPath → List ℕ) → Stream V
  coords_over vs f = coordinates (suc (length vs)) (over K T acs body vs f)

  abbrev pub children_over : List ℕ → (LeafPath → List (Option ℕ)) → Stream V
  children_over vs f = references (suc (length vs)) (over K T acs body vs f)

  -- fibers ascend at every path
  abbrev pub AllAscend : (LeafPath → List ℕ) → Type 0
  AllAscend f = (p : LeafPath) → Ascends (f p)

  -- MEET and JOIN
  does_merge :
      (c : ℕ → ℕ → ℕ → Command) (f : List ℕ → List ℕ → List ℕ)
      → ((ss : List (Stream V)) (a b n : ℕ) (t : Table V) → step K T (c a b n) (state K T ss t) ≡ state K T (ss ++ merged f (nth_stream ss a) (nth_stream ss b) ∷ []) t)
      → ((ss : List (Stream V)) (a b n : ℕ) → Mergeable ss a b → n ≡ length ss → Fits (c a b n) ss)
      → ((x y : List ℕ) → Ascends x → Ascends y → Ascends (f x y))
      → (vs : List ℕ) → Does K T (coords_over vs) AllAscend c (λ g h p. f (g p) (h p))
  does_merge c f steps fits keeps vs =
      record {
        steps = λ ss a b n g h ma mb t.
            steps ss a b n t
            ∙ ap (λ s. state K T (ss ++ s ∷ []) t)
            (ap₂ (merged f) ma.0.is mb.0.is ∙ ap (coordinates (suc (length vs))) (beside_each f [] g h (length vs) (tree K T acs body vs)));
        fits = λ ss a b n g h e ma mb.
            fits ss a b n
            (
            record {
              depth = length vs;
              first = over K T acs body vs g;
              second = over K T acs body vs h;
              first_is = made K T ma.0;
              second_is = made K T mb.0;
              shape = same_shape g h (length vs) (tree K T acs body vs);
              ascend = (every_each Ascends g ma.1 (length vs) (tree K T acs body vs), every_each Ascends h mb.1 (length vs) (tree K T acs body vs));
            }
            )
            e;
        keeps = λ g h okg okh p. keeps (g p) (h p) (okg p) (okh p);
      }

  pub does_meet : (vs : List ℕ) → Does K T (coords_over vs) AllAscend MEET (meet_of K T acs body)
  does_meet = does_merge MEET in_both (λ ss a b n t. refl) (λ ss a b n m e. (m, e)) (λ x y h k. ascends_both x y h)

  pub does_join : (vs : List ℕ) → Does K T (coords_over vs) AllAscend JOIN (join_of K T acs body)
  does_join = does_merge JOIN in_either (λ ss a b n t. refl) (λ ss a b n m e. (m, e)) (λ x y h k. ascends_either x y k)

  -- an access before the scan, after it, and after the move
  pub record Standing (ss : List (Stream V)) (vs : List ℕ) (a : Access) (c : Cursor) : Type 0 where
    pub same : c.of ≡ a
    pub ascends : AccessAscends T a
    pub here : StreamIs K T ss c.ref (references_of vs a)

  pub record Seen (ss : List (Stream V)) (vs : List ℕ) (v : ℕ) (b : Bool) (a : Access) (s : Scanned) : Type 0 where
    pub same : s.of ≡ a
    pub ascends : AccessAscends T a
    pub here : StreamIs K T ss s.ref (references_of vs a)
    pub crd : b ≡ true → StreamIs K T ss s.crd (coords_over vs (λ p. coords (fiber_of K T acs body a v vs p)))
    pub children : b ≡ true → StreamIs K T ss s.children (children_over vs (λ p. child_references (fiber_of K T acs body a v vs p)))

  pub standing_on : (vs : List ℕ) (ss ss1 : List (Stream V)) → Grows ss ss1 → (a : Access) (c : Cursor) → Standing ss vs a c → Standing ss1 vs a c
  standing_on vs ss ss1 g a c h = record { same = h.same; ascends = h.ascends; here = stream_on K T g h.here }

  pub seen_on : (vs : List ℕ) (v : ℕ) (ss ss1 : List (Stream V)) → Grows ss ss1 → (a : Access) (s : Scanned) → Seen ss vs v (has a.vars v) a s → Seen ss1 vs v (has a.vars v) a s
  seen_on vs v ss ss1 g a s h = record { same = h.same; ascends = h.ascends; here = stream_on K T g h.here; crd = λ e. stream_on K T g (h.crd e); children = λ e. stream_on K T g (h.children e) }

  pub sound_scan : (vs : List ℕ) (v : ℕ) (a : Access) (c : Cursor) (n : ℕ) (ss : List (Stream V)) → n ≡ length ss → Standing ss vs a c → Sound K T (scan v c n) ss (λ ss1 s. Seen ss1 vs v (has a.vars v) a s)
  sound_scan vs v a c n ss e h = subst (λ x. Sound K T (scan v (record { of = x; ref = c.ref }) n) ss (λ ss1 s. Seen ss1 vs v (has a.vars v) a s)) (sym h.same) (go (has a.vars v))
    where
      L : Level
      L = nth_level T a.slot (place a.vars v)

      go : (b : Bool) → Sound K T (cond b (record { commands = SCAN a.slot (place a.vars v) c.ref n (n + 1) ∷ []; next = n + 2; result = record { of = a; ref = c.ref; crd = n; children = n + 1 } }) (record { commands = []; next = n; result = record { of = a; ref = c.ref; crd = 0; children = 0 } })) ss (λ ss1 s. Seen ss1 vs v b a s)
      go true =
          let new : List (Stream V) = scanned_coordinates L (nth_stream ss c.ref) ∷ scanned_children L (nth_stream ss c.ref) ∷ [] in
          let grew : Grows ss (ss ++ new) = record { more = new; is = refl } in
          record {
            final = ss ++ new;
            grows = grew;
            runs = λ t. refl;
            fits = λ t. ((record { depth = length vs; tree = over K T acs body vs (node K T acs body a vs); is = made K T h.here }, e, omega arith), tt);
            next = omega (arith, length-append ss new);
            after = record {
              same = refl;
              ascends = h.ascends;
              here = stream_on K T grew h.here;
              crd = λ _. stream_new K T ss new n 0 _ (omega arith) (omega arith) (ap (scanned_coordinates L) h.here.is ∙ ap (coordinates (suc (length vs))) (each_each (λ r. coords (fiber_at L r)) (node K T acs body a vs) (length vs) (tree K T acs body vs)));
              children = λ _. stream_new K T ss new (n + 1) 1 _ (omega arith) (omega arith) (ap (scanned_children L) h.here.is ∙ ap (references (suc (length vs))) (each_each (λ r. child_references (fiber_at L r)) (node K T acs body a vs) (length vs) (tree K T acs body vs)));
            };
          }
      go false = sound_pure K T (record { of = a; ref = c.ref; crd = 0; children = 0 }) n ss (λ ss1 s. Seen ss1 vs v false a s) e (record { same = refl; ascends = h.ascends; here = h.here; crd = λ x. absurd (false≢true x); children = λ x. absurd (false≢true x) })

  -- ALIGN and REPEAT
  longer : (vs : List ℕ) (v : ℕ) (a : Access) → over K T acs body (v ∷ vs) (node K T acs body a (v ∷ vs)) ≡ over K T acs body vs (λ p. map (λ c. node K T acs body a (v ∷ vs) (c ∷ p)) (live K T acs body v vs p))
  longer vs v a =
      each_each (map (node K T acs body a (v ∷ vs))) (λ p. map (λ c. c ∷ p) (live K T acs body v vs p)) (length vs) (tree K T acs body vs)
      ∙ ap (λ f. over K T acs body vs f) (fun_ext (λ p. map-map (node K T acs body a (v ∷ vs)) (λ c. c ∷ p) (live K T acs body v vs p)))

  advance_is :
      (vs : List ℕ) (v : ℕ) (a : Access) (s : Scanned) (z n : ℕ) (ss : List (Stream V)) (b : Bool) → has a.vars v ≡ b → Seen ss vs v b a s
      → StreamIs K T ss z (coords_over vs (live K T acs body v vs)) → (t : Table V)
      → step K T (cond b (ALIGN s.crd s.children z n) (REPEAT s.ref z n)) (state K T ss t) ≡ state K T (ss ++ references_of (v ∷ vs) a ∷ []) t
  advance_is vs v a s z n ss true e h hz t =
      ap (λ x. state K T (ss ++ x ∷ []) t)
      (
      (λ i. aligned ((h.crd refl).is i) ((h.children refl).is i) (hz.is i))
      ∙ ap (references (suc (length vs)))
      (
      ap (beside (λ zs f. map f zs) [] (length vs) (length vs) (over K T acs body vs (live K T acs body v vs)))
      (beside_each (λ cs rs x. standing cs rs x) (λ x. None) (λ p. coords (F p)) (λ p. child_references (F p)) (length vs) (tree K T acs body vs))
      ∙ beside_each (λ zs f. map f zs) [] (live K T acs body v vs) (λ p x. standing (coords (F p)) (child_references (F p)) x) (length vs) (tree K T acs body vs)
      ∙ ap (λ f. over K T acs body vs f)
      (fun_ext λ p. ap (λ f. map f (live K T acs body v vs p)) (fun_ext λ c. standing_child (F p) c ∙ sym (ap (λ b. cond b (child (F p) c) (node K T acs body a vs p)) e)))
      ∙ sym (longer vs v a)
      )
      )
    where
      F : LeafPath → Fiber
      F p = fiber_of K T acs body a v vs p
  advance_is vs v a s z n ss false e h hz t =
      ap (λ x. state K T (ss ++ x ∷ []) t)
      (
      (λ i. repeated (h.here.is i) (hz.is i))
      ∙ ap (references (suc (length vs)))
      (
      beside_each (λ zs x. map (λ c. x) zs) [] (live K T acs body v vs) (node K T acs body a vs) (length vs) (tree K T acs body vs)
      ∙ ap (λ f. over K T acs body vs f)
      (fun_ext λ p. ap (λ f. map f (live K T acs body v vs p)) (fun_ext λ c. sym (ap (λ b. cond b (child (fiber_of K T acs body a v vs p) c) (node K T acs body a vs p)) e)))
      ∙ sym (longer vs v a)
      )
      )

  advance_fits :
      (vs : List ℕ) (v : ℕ) (a : Access) (s : Scanned) (z n : ℕ) (ss : List (Stream V)) (b : Bool) → has a.vars v ≡ b → n ≡ length ss → Seen ss vs v b a s
      → StreamIs K T ss z (coords_over vs (live K T acs body v vs)) → AllAscend (live K T acs body v vs) → Fits (cond b (ALIGN s.crd s.children z n) (REPEAT s.ref z n)) ss
  advance_fits vs v a s z n ss true q e h hz climbs = (
    record {
      depth = length vs;
      fibers = over K T acs body vs (λ p. coords (F p));
      children = over K T acs body vs (λ p. child_references (F p));
      merged = over K T acs body vs (live K T acs body v vs);
      fibers_is = made K T (h.crd refl);
      children_is = made K T (h.children refl);
      merged_is = made K T hz;
      beside_each = alike_each (Pairwise (λ (x : ℕ) (y : Option ℕ). Unit {0})) (λ p. coords (F p)) (λ p. child_references (F p)) (λ p. two_images (λ x. x.0) (λ x. Some x.1) (F p)) (length vs) (tree K T acs body vs);
      shape = same_shape (λ p. coords (F p)) (live K T acs body v vs) (length vs) (tree K T acs body vs);
      ascend = (every_each Ascends (λ p. coords (F p)) (λ p. h.ascends v q (node K T acs body a vs p)) (length vs) (tree K T acs body vs), every_each Ascends (live K T acs body v vs) climbs (length vs) (tree K T acs body vs));
    },
    e,
  )
    where
      F : LeafPath → Fiber
      F p = fiber_of K T acs body a v vs p
  advance_fits vs v a s z n ss false q e h hz climbs = (
    record {
      depth = length vs;
      tree = over K T acs body vs (node K T acs body a vs);
      merged = over K T acs body vs (live K T acs body v vs);
      tree_is = made K T h.here;
      merged_is = made K T hz;
      shape = same_shape (node K T acs body a vs) (live K T acs body v vs) (length vs) (tree K T acs body vs);
    },
    e,
  )

  pub sound_advance :
      (vs : List ℕ) (v z : ℕ) (a : Access) (s : Scanned) (n : ℕ) (ss : List (Stream V)) → n ≡ length ss
      → Seen ss vs v (has a.vars v) a s × StreamIs K T ss z (coords_over vs (live K T acs body v vs)) × AllAscend (live K T acs body v vs) → Sound K T (advance v z s n) ss (λ ss1 c. Standing ss1 (v ∷ vs) a c)
  sound_advance vs v z a s n ss e h =
      sound_then K T (emit (λ out. cond (has s.of.vars v) (ALIGN s.crd s.children z out) (REPEAT s.ref z out))) (λ r. pure (record { of = s.of; ref = r })) n
      (
      sound_emit K T (λ out. cond (has s.of.vars v) (ALIGN s.crd s.children z out) (REPEAT s.ref z out)) (references_of (v ∷ vs) a) n ss (λ ss1 r. StreamIs K T ss1 r (references_of (v ∷ vs) a)) e
      (subst (λ (x : Access). Fits (cond (has x.vars v) (ALIGN s.crd s.children z n) (REPEAT s.ref z n)) ss) (sym h.0.same) (advance_fits vs v a s z n ss (has a.vars v) refl e h.0 h.1 h.2))
      (λ t. ap (λ (x : Access). step K T (cond (has x.vars v) (ALIGN s.crd s.children z n) (REPEAT s.ref z n)) (state K T ss t)) h.0.same ∙ advance_is vs v a s z n ss (has a.vars v) refl h.0 h.1 t)
      (λ grew holds. holds)
      )
      (λ ss1 r k e1 grew now. sound_pure K T (record { of = s.of; ref = r }) k ss1 (λ ss2 c. Standing ss2 (v ∷ vs) a c) e1 (record { same = h.0.same; ascends = h.0.ascends; here = now }))
