-- A merge over streams is the merge of what they mean. Assumes nothing.
use Rattle.std.proofs.Common.{◌≡◌, ℕ, ◌<◌, Bool, true, false, cond, ◌||◌, List, [], ◌∷◌, ◌++◌, length, refl}
use mathlib.Core.Bool.{false≢true}
use Rattle.model.specs.Semirings.{Algebra}
use Rattle.model.specs.Tensors.{Storage}
use Rattle.model.specs.Trees.{Pairwise}
use Rattle.model.specs.Streams.{Stream}
use Rattle.model.specs.Terms.{Expr, operand, product, sum, Parts, last, more}
use Rattle.model.specs.Commands.{Command}
use Rattle.model.specs.Running.{Table, step}
use Rattle.model.specs.Lowering.{Lower, pure, then, emit, folded, fold, merge, merge_parts}
use Rattle.model.specs.Shapes.{Fits}
use Rattle.model.proofs.Fit.{Placed, PlacedIn}
use Rattle.model.proofs.Soundness.{Grows, grows_refl, StreamIs, stream_on, state, Sound, sound_pure, sound_then, sound_emit, pairwise_on}

-- a fold from the left
abbrev pub folds : {G : Type 0} → (G → G → G) → G → List G → G
folds f a [] = a
folds f a (b ∷ bs) = folds f (f a b) bs

abbrev pub fold_of : {G : Type 0} → G → (G → G → G) → List G → G
fold_of o f [] = o
fold_of o f (a ∷ bs) = folds f a bs

-- what a merge means, over what the accesses' streams mean
module _ {G : Type 0} (by plus : G → G → G) (o : G) (counts : Expr → Bool) (leaf : ℕ → G) where
  abbrev mutual
    pub meant : Expr → G
    meant (operand i) = leaf i
    meant (product ps) = fold_of o by (meant_parts ps)
    meant (sum ps) = fold_of o plus (meant_parts ps)

    pub meant_parts : Parts → List G
    meant_parts (last e) = cond (counts e) (meant e ∷ []) []
    meant_parts (more e ps) = cond (counts e) (meant e ∷ meant_parts ps) (meant_parts ps)

-- some part counts
abbrev pub some_counts : (Expr → Bool) → Parts → Bool
some_counts counts (last e) = counts e
some_counts counts (more e ps) = counts e || some_counts counts ps

abbrev pub Filled : {G : Type 0} → List G → Type 0
Filled [] = ⊥
Filled (a ∷ bs) = Unit {0}

module _ {V : Type 0} (K : Algebra V) (T : ℕ → Storage V) {G : Type 0} (S : G → Stream V) (Good : G → Type 0) where
  -- a stream stands for g, which is good
  abbrev pub Means : List (Stream V) → ℕ → G → Type 0
  Means ss n g = StreamIs K T ss n (S g) × Good g

  means_on : {ss ss1 : List (Stream V)} {n : ℕ} {g : G} → Grows ss ss1 → Means ss n g → Means ss1 n g
  means_on grew m = (stream_on K T grew m.0, m.1)

  -- the command fits, and is f on what its streams mean
  pub record Does (c : ℕ → ℕ → ℕ → Command) (f : G → G → G) : Type 0 where
    pub steps : (ss : List (Stream V)) (a b n : ℕ) (g h : G) → Means ss a g → Means ss b h → (t : Table V) → step K T (c a b n) (state K T ss t) ≡ state K T (ss ++ S (f g h) ∷ []) t
    pub fits : (ss : List (Stream V)) (a b n : ℕ) (g h : G) → n ≡ length ss → Means ss a g → Means ss b h → Fits (c a b n) ss
    pub keeps : (g h : G) → Good g → Good h → Good (f g h)

  sound_folded :
      (c : ℕ → ℕ → ℕ → Command) (f : G → G → G) → Does c f → (a : ℕ) (g : G) (n : ℕ) (ss : List (Stream V)) (ns : List ℕ) (gs : List G) → n ≡ length ss
      → Means ss a g → Pairwise (Means ss) ns gs → Sound K T (folded c a ns n) ss (λ ss1 b. Means ss1 b (folds f g gs))
  sound_folded c f does a g n ss [] [] e m ms = sound_pure K T a n ss _ e m
  sound_folded c f does a g n ss [] (h ∷ gs) e m ms = absurd ms
  sound_folded c f does a g n ss (b ∷ ns) [] e m ms = absurd ms
  sound_folded c f does a g n ss (b ∷ ns) (h ∷ gs) e m ms =
      sound_then K T (emit (c a b)) (λ x. folded c x ns) n
      (sound_emit K T (c a b) (S (f g h)) n ss (λ ss1 x. Means ss1 x (f g h)) e (does.fits ss a b n g h e m ms.0) (does.steps ss a b n g h m ms.0) (λ grew holds. (holds, does.keeps g h m.1 ms.0.1)))
      (λ ss1 x k e1 grew now. sound_folded c f does x (f g h) k ss1 ns gs e1 now (pairwise_on (λ a1 b1 m1. means_on grew m1) ns gs ms.1))

  sound_fold :
      (c : ℕ → ℕ → ℕ → Command) (f : G → G → G) (o : G) → Does c f → (n : ℕ) (ss : List (Stream V)) (ns : List ℕ) (gs : List G) → n ≡ length ss
      → Filled gs → Pairwise (Means ss) ns gs → Sound K T (fold c ns n) ss (λ ss1 b. Means ss1 b (fold_of o f gs))
  sound_fold c f o does n ss ns [] e full ms = absurd full
  sound_fold c f o does n ss [] (g ∷ gs) e full ms = absurd ms
  sound_fold c f o does n ss (a ∷ ns) (g ∷ gs) e full ms = sound_folded c f does a g n ss ns gs e ms.0 ms.1

  module _ (times plus : ℕ → ℕ → ℕ → Command) (by and : G → G → G) (o : G) (does_times : Does times by) (does_plus : Does plus and)
      (counts : Expr → Bool) (counts_product : (ps : Parts) → counts (product ps) ≡ true → some_counts counts ps ≡ true) (counts_sum : (ps : Parts) → counts (sum ps) ≡ true → some_counts counts ps ≡ true)
      (stream : ℕ → ℕ) (leaf : ℕ → G) (N : ℕ) where
    abbrev pub Ready : List (Stream V) → Type 0
    Ready ss = (i : ℕ) → i < N → counts (operand i) ≡ true → Means ss (stream i) (leaf i)

    abbrev gist : Expr → G
    gist = meant by and o counts leaf

    abbrev gists : Parts → List G
    gists = meant_parts by and o counts leaf

    filled : (ps : Parts) → some_counts counts ps ≡ true → Filled (gists ps)
    filled (last e) h = go (counts e) h
      where
        go : (b : Bool) → b ≡ true → Filled (cond b (gist e ∷ []) [])
        go true h1 = tt
        go false h1 = absurd (false≢true h1)
    filled (more e ps) h = go (counts e) h (filled ps)
      where
        go : (b : Bool) → (b || some_counts counts ps) ≡ true → (some_counts counts ps ≡ true → Filled (gists ps)) → Filled (cond b (gist e ∷ gists ps) (gists ps))
        go true h1 f = tt
        go false h1 f = f h1

    abbrev low : Expr → Lower ℕ
    low = merge times plus counts stream

    abbrev lows : Parts → Lower (List ℕ)
    lows = merge_parts times plus counts stream

    sound_last :
        (e : Expr) (b : Bool) (n : ℕ) (ss : List (Stream V)) → n ≡ length ss → (b ≡ true → Sound K T (low e n) ss (λ ss1 a. Means ss1 a (gist e)))
        → Sound K T (cond b (then (low e) (λ a. pure (a ∷ []))) (pure []) n) ss (λ ss1 ns. Pairwise (Means ss1) ns (cond b (gist e ∷ []) []))
    sound_last e true n ss eq one =
        sound_then K T (low e) (λ a. pure (a ∷ [])) n (one refl)
        (λ ss1 a k eq1 grew now. sound_pure K T (a ∷ []) k ss1 (λ ss2 ns. Pairwise (Means ss2) ns (gist e ∷ [])) eq1 (now, tt))
    sound_last e false n ss eq one = sound_pure K T [] n ss (λ ss2 ns. Pairwise (Means ss2) ns []) eq tt

    sound_more :
        (e : Expr) (ps : Parts) (b : Bool) (n : ℕ) (ss : List (Stream V)) → n ≡ length ss → (b ≡ true → Sound K T (low e n) ss (λ ss1 a. Means ss1 a (gist e)))
        → ((k : ℕ) (ss1 : List (Stream V)) → k ≡ length ss1 → Grows ss ss1 → Sound K T (lows ps k) ss1 (λ ss2 ns. Pairwise (Means ss2) ns (gists ps)))
        → Sound K T (cond b (then (low e) (λ a. then (lows ps) (λ ns. pure (a ∷ ns)))) (lows ps) n) ss (λ ss1 ns. Pairwise (Means ss1) ns (cond b (gist e ∷ gists ps) (gists ps)))
    sound_more e ps true n ss eq one rest =
        sound_then K T (low e) (λ a. then (lows ps) (λ ns. pure (a ∷ ns))) n (one refl)
        (
        λ ss1 a k eq1 grew now.
        sound_then K T (lows ps) (λ ns. pure (a ∷ ns)) k (rest k ss1 eq1 grew)
        (λ ss2 ns k1 eq2 grew1 now1. sound_pure K T (a ∷ ns) k1 ss2 (λ ss3 ns. Pairwise (Means ss3) ns (gist e ∷ gists ps)) eq2 (means_on grew1 now, now1))
        )
    sound_more e ps false n ss eq one rest = rest n ss eq (grows_refl ss)

    ready_on : {ss ss1 : List (Stream V)} → Grows ss ss1 → Ready ss → Ready ss1
    ready_on grew r i lt h = means_on grew (r i lt h)

    mutual
      pub sound_merge : (e : Expr) → Placed N e → counts e ≡ true → (n : ℕ) (ss : List (Stream V)) → n ≡ length ss → Ready ss → Sound K T (low e n) ss (λ ss1 b. Means ss1 b (gist e))
      sound_merge (operand i) p h n ss e r = sound_pure K T (stream i) n ss _ e (r i p h)
      sound_merge (product ps) p h n ss e r =
          sound_then K T (lows ps) (fold times) n (sound_parts ps p n ss e r)
          (λ ss1 x k e1 grew now. sound_fold times by o does_times k ss1 x (gists ps) e1 (filled ps (counts_product ps h)) now)
      sound_merge (sum ps) p h n ss e r =
          sound_then K T (lows ps) (fold plus) n (sound_parts ps p n ss e r)
          (λ ss1 x k e1 grew now. sound_fold plus and o does_plus k ss1 x (gists ps) e1 (filled ps (counts_sum ps h)) now)

      pub sound_parts : (ps : Parts) → PlacedIn N ps → (n : ℕ) (ss : List (Stream V)) → n ≡ length ss → Ready ss → Sound K T (lows ps n) ss (λ ss1 ns. Pairwise (Means ss1) ns (gists ps))
      sound_parts (last e) p n ss eq r = sound_last e (counts e) n ss eq (λ h. sound_merge e p h n ss eq r)
      sound_parts (more e ps) p n ss eq r =
          sound_more e ps (counts e) n ss eq (λ h. sound_merge e p.0 h n ss eq r) (λ k ss1 eq1 grew. sound_parts ps p.1 k ss1 eq1 (ready_on grew r))
