-- The left coordinates in order, as a table. Assumes nothing.
use Rattle.std.proofs.Common.{◌≡◌, ℕ, zero, suc, ◌+◌, ◌<◌, Bool, true, false, cond, ◌||◌, eqb, ltb, List, [], ◌∷◌, ◌++◌, map, length, sym, refl, ap, ◌∙◌, subst, ap₂, arith}
use mathlib.Core.Path.{fun_ext}
use mathlib.Core.Bool.{false≢true}
use mathlib.Core.List.{map-append}
use Rattle.std.specs.List.{flat_map, AllByRecursion}
use Rattle.std.proofs.lemmas.Bool.{ne_eqb, eq-eqb, eqb-true, eqb-false, ltb-true, ltb-false, lt-ltb}
use Rattle.std.proofs.ByRecursion.{All-append}
use Rattle.model.specs.Semirings.{Algebra, Laws, total}
use Rattle.model.specs.Tensors.{has, same}
use Rattle.model.specs.Blocks.{Key}
use Rattle.model.specs.Running.{Table, before}
use Rattle.model.specs.Sums.{below, keys, Assignment, bind_all}
use Rattle.model.specs.Meaning.{Ascending}
use Rattle.model.proofs.Totals.{sum_zero_right, total_append, total_at}
use Rattle.model.proofs.Tables.{Before, Long, no_self, look, Keyed, Above}

abbrev pub within : (ℕ → ℕ) → List ℕ → Key → Bool
within extent [] [] = true
within extent [] (c ∷ k) = false
within extent (v ∷ vs) [] = false
within extent (v ∷ vs) (c ∷ k) = cond (ltb c (extent v)) (within extent vs k) false

pub within_long : (extent : ℕ → ℕ) (left : List ℕ) (k : Key) → within extent left k ≡ true → length k ≡ length left
within_long extent [] [] h = refl
within_long extent [] (c ∷ k) h = absurd (false≢true h)
within_long extent (v ∷ vs) [] h = absurd (false≢true h)
within_long extent (v ∷ vs) (c ∷ k) h = go (ltb c (extent v)) h (within_long extent vs k)
  where
    go : (b : Bool) → cond b (within extent vs k) false ≡ true → (within extent vs k ≡ true → length k ≡ length vs) → suc (length k) ≡ suc (length vs)
    go true h1 ih = ap suc (ih h1)
    go false h1 ih = absurd (false≢true h1)

pub within_below : (extent : ℕ → ℕ) (left : List ℕ) (k : Key) → within extent left k ≡ true → (w : ℕ) → has left w ≡ true → bind_all left k w < extent w
within_below extent [] k h w o = absurd (false≢true o)
within_below extent (v ∷ vs) [] h w o = absurd (false≢true h)
within_below extent (v ∷ vs) (c ∷ k) h w o = go (ltb c (extent v)) (eqb v w) refl refl h o (λ h1. within_below extent vs k h1 w)
  where
    go : (b d : Bool) → ltb c (extent v) ≡ b → eqb v w ≡ d → cond b (within extent vs k) false ≡ true → (d || has vs w) ≡ true → (within extent vs k ≡ true → has vs w ≡ true → bind_all vs k w < extent w) → cond d c (bind_all vs k w) < extent w
    go true true e q h1 o1 ih = subst (λ u. c < extent u) (eqb-true v w q) (ltb-true c (extent v) e)
    go true false e q h1 o1 ih = ih h1 o1
    go false d e q h1 o1 ih = absurd (false≢true h1)

or_right : (a b : Bool) → b ≡ true → (a || b) ≡ true
or_right true b e = refl
or_right false b e = e

pub within_map : (extent : ℕ → ℕ) (left : List ℕ) (s : Assignment) → ((w : ℕ) → has left w ≡ true → s w < extent w) → within extent left (map s left) ≡ true
within_map extent [] s h = refl
within_map extent (v ∷ vs) s h =
    ap (λ b. cond b (within extent vs (map s vs)) false) (lt-ltb (s v) (extent v) (h v (ap (λ b. b || has vs v) (eq-eqb v v refl))))
    ∙ within_map extent vs s (λ w o. h w (or_right (eqb v w) (has vs w) o))

-- ascending keys
abbrev Climbing : List Key → Type 0
Climbing [] = Unit {0}
Climbing (k ∷ ks) = AllByRecursion (Before k) ks × Climbing ks

all_map : {A B : Type 0} (P : B → Type 0) (f : A → B) (xs : List A) → ((a : A) → P (f a)) → AllByRecursion P (map f xs)
all_map P f [] h = tt
all_map P f (x ∷ xs) h = (h x, all_map P f xs h)

behind : (c : ℕ) (j k : Key) → Before j k → Before (c ∷ j) (c ∷ k)
behind c j k h = ap (λ b. cond b true (cond (eqb c c) (before j k) false)) (no_self c) ∙ ap (λ b. cond b (before j k) false) (eq-eqb c c refl) ∙ h

block : (c : ℕ) (ks : List Key) → Climbing ks → Climbing (map (λ k. c ∷ k) ks)
block c [] h = tt
block c (k ∷ ks) h = (go ks h.0, block c ks h.1)
  where
    go : (js : List Key) → AllByRecursion (Before k) js → AllByRecursion (Before (c ∷ k)) (map (λ j. c ∷ j) js)
    go [] g = tt
    go (j ∷ js) g = (behind c k j g.0, go js g.1)

later : (c n e : ℕ) (k : Key) (ks : List Key) → c < n → AllByRecursion (Before (c ∷ k)) (flat_map (λ d. map (λ j. d ∷ j) ks) (below n e))
later c n zero k ks lt = tt
later c n (suc e) k ks lt =
    All-append (Before (c ∷ k)) (map (λ j. n ∷ j) ks) (flat_map (λ d. map (λ j. d ∷ j) ks) (below (suc n) e))
    (all_map (Before (c ∷ k)) (λ j. n ∷ j) ks (λ j. ap (λ b. cond b true (cond (eqb c n) (before k j) false)) (lt-ltb c n lt))) (later c (suc n) e k ks (omega arith))

climbing_append : (ks js : List Key) → Climbing ks → Climbing js → AllByRecursion (λ k. AllByRecursion (Before k) js) ks → Climbing (ks ++ js)
climbing_append [] js h g a = g
climbing_append (k ∷ ks) js h g a = (All-append (Before k) ks js h.0 a.0, climbing_append ks js h.1 g a.1)

blocks : (n e : ℕ) (ks : List Key) → Climbing ks → Climbing (flat_map (λ d. map (λ j. d ∷ j) ks) (below n e))
blocks n zero ks h = tt
blocks n (suc e) ks h =
    climbing_append (map (λ j. n ∷ j) ks) (flat_map (λ d. map (λ j. d ∷ j) ks) (below (suc n) e)) (block n ks h) (blocks (suc n) e ks h)
    (all_map (λ k. AllByRecursion (Before k) (flat_map (λ d. map (λ j. d ∷ j) ks) (below (suc n) e))) (λ j. n ∷ j) ks (λ j. later n (suc n) e j ks (omega arith)))

keys_climb : (extent : ℕ → ℕ) (left : List ℕ) → Climbing (keys extent left)
keys_climb extent [] = (tt, tt)
keys_climb extent (v ∷ left) = blocks 0 (extent v) (keys extent left) (keys_climb extent left)

keys_long : (extent : ℕ → ℕ) (left : List ℕ) → AllByRecursion (Long left) (keys extent left)
keys_long extent [] = (tt, tt)
keys_long extent (v ∷ left) = go (below 0 (extent v)) (keys_long extent left)
  where
    one : (c : ℕ) (ks : List Key) → AllByRecursion (Long left) ks → AllByRecursion (Long (v ∷ left)) (map (λ j. c ∷ j) ks)
    one c [] h = tt
    one c (k ∷ ks) h = (h.0, one c ks h.1)

    go : (cs : List ℕ) → AllByRecursion (Long left) (keys extent left) → AllByRecursion (Long (v ∷ left)) (flat_map (λ d. map (λ j. d ∷ j) (keys extent left)) cs)
    go [] h = tt
    go (c ∷ cs) h = All-append (Long (v ∷ left)) (map (λ j. c ∷ j) (keys extent left)) (flat_map (λ d. map (λ j. d ∷ j) (keys extent left)) cs) (one c (keys extent left) h) (go cs h)

eqb_swap : (a b : ℕ) → eqb a b ≡ eqb b a
eqb_swap a b = go (eqb b a) refl
  where
    go : (d : Bool) → eqb b a ≡ d → eqb a b ≡ d
    go true e = eq-eqb a b (sym (eqb-true b a e))
    go false e = ne_eqb a b (λ q. eqb-false b a e (sym q))

module _ {V : Type 0} (K : Algebra V) (laws : Laws K) where
  pub total_below : (f : ℕ → V) (n e : ℕ) → ((c : ℕ) → c < n + e → f c ≡ K.zero) → total K (map f (below n e)) ≡ K.zero
  total_below f n zero h = refl
  total_below f n (suc e) h = ap₂ K.sum (h n (omega arith)) (total_below f (suc n) e (λ c lt. h c (omega arith))) ∙ laws.sum_zero K.zero

  -- a table of all keys
  abbrev pub tabled : (Key → V) → List Key → Table V
  tabled g ks = map (λ k. (k, g k)) ks

  tabled_climbs : (g : Key → V) (ks : List Key) → Climbing ks → Ascending (tabled g ks)
  tabled_climbs g [] h = tt
  tabled_climbs g (k ∷ ks) h = (go ks h.0, tabled_climbs g ks h.1)
    where
      go : (js : List Key) → AllByRecursion (Before k) js → Above K laws k (tabled g js)
      go [] a = tt
      go (j ∷ js) a = (a.0, go js a.1)

  tabled_long : {A : Type 0} (vs : List A) (g : Key → V) (ks : List Key) → AllByRecursion (Long vs) ks → Keyed K laws vs (tabled g ks)
  tabled_long vs g [] h = tt
  tabled_long vs g (k ∷ ks) h = (h.0, tabled_long vs g ks h.1)

  pub all_climb : (extent : ℕ → ℕ) (left : List ℕ) (g : Key → V) → Ascending (tabled g (keys extent left))
  all_climb extent left g = tabled_climbs g (keys extent left) (keys_climb extent left)

  pub all_long : (extent : ℕ → ℕ) (left : List ℕ) (g : Key → V) → Keyed K laws left (tabled g (keys extent left))
  all_long extent left g = tabled_long left g (keys extent left) (keys_long extent left)

  pub look_append : (k : Key) (s t : Table V) → look K laws k (s ++ t) ≡ K.sum (look K laws k s) (look K laws k t)
  look_append k s t = ap (total K) (map-append (λ e. cond (same e.0 k) e.1 K.zero) s t) ∙ total_append K laws (map (λ e. cond (same e.0 k) e.1 K.zero) s) (map (λ e. cond (same e.0 k) e.1 K.zero) t)

  look_blocks : (k : Key) (g : Key → V) (ks : List Key) (cs : List ℕ) → look K laws k (tabled g (flat_map (λ d. map (λ j. d ∷ j) ks) cs)) ≡ total K (map (λ c. look K laws k (tabled g (map (λ j. c ∷ j) ks))) cs)
  look_blocks k g ks [] = refl
  look_blocks k g ks (c ∷ cs) =
      ap (look K laws k) (map-append (λ j. (j, g j)) (map (λ j. c ∷ j) ks) (flat_map (λ d. map (λ j. d ∷ j) ks) cs))
      ∙ look_append k (tabled g (map (λ j. c ∷ j) ks)) (tabled g (flat_map (λ d. map (λ j. d ∷ j) ks) cs))
      ∙ ap (K.sum (look K laws k (tabled g (map (λ j. c ∷ j) ks)))) (look_blocks k g ks cs)

  look_block : (b : ℕ) (k : Key) (g : Key → V) (c : ℕ) (ks : List Key) → look K laws (b ∷ k) (tabled g (map (λ j. c ∷ j) ks)) ≡ cond (eqb b c) (look K laws k (tabled (λ j. g (c ∷ j)) ks)) K.zero
  look_block b k g c ks = go (eqb b c) refl ks
    where
      go : (d : Bool) → eqb b c ≡ d → (js : List Key) → look K laws (b ∷ k) (tabled g (map (λ j. c ∷ j) js)) ≡ cond d (look K laws k (tabled (λ j. g (c ∷ j)) js)) K.zero
      go true q [] = refl
      go false q [] = refl
      go true q (j ∷ js) = ap₂ K.sum (ap (λ d. cond (cond d (same j k) false) (g (c ∷ j)) K.zero) (eqb_swap c b ∙ q)) (go true q js)
      go false q (j ∷ js) = ap₂ K.sum (ap (λ d. cond (cond d (same j k) false) (g (c ∷ j)) K.zero) (eqb_swap c b ∙ q)) (go false q js) ∙ laws.sum_zero K.zero

  look_none : (g : Key → V) (c : ℕ) (ks : List Key) → look K laws [] (tabled g (map (λ j. c ∷ j) ks)) ≡ K.zero
  look_none g c [] = refl
  look_none g c (j ∷ ks) = ap (K.sum K.zero) (look_none g c ks) ∙ laws.sum_zero K.zero

  pub look_all : (extent : ℕ → ℕ) (left : List ℕ) (g : Key → V) (k : Key) → look K laws k (tabled g (keys extent left)) ≡ cond (within extent left k) (g k) K.zero
  look_all extent [] g [] = sum_zero_right K laws (g [])
  look_all extent [] g (c ∷ k) = laws.sum_zero K.zero
  look_all extent (v ∷ left) g [] = look_blocks [] g (keys extent left) (below 0 (extent v)) ∙ total_below (λ c. look K laws [] (tabled g (map (λ j. c ∷ j) (keys extent left)))) 0 (extent v) (λ c lt. look_none g c (keys extent left))
  look_all extent (v ∷ left) g (b ∷ k) =
      look_blocks (b ∷ k) g (keys extent left) (below 0 (extent v))
      ∙ ap (λ f. total K (map f (below 0 (extent v)))) (fun_ext λ c. look_block b k g c (keys extent left))
      ∙ go (ltb b (extent v)) refl (λ c. look_all extent left (λ j. g (c ∷ j)) k)
    where
      go : (d : Bool) → ltb b (extent v) ≡ d → ((c : ℕ) → look K laws k (tabled (λ j. g (c ∷ j)) (keys extent left)) ≡ cond (within extent left k) (g (c ∷ k)) K.zero)
          → total K (map (λ c. cond (eqb b c) (look K laws k (tabled (λ j. g (c ∷ j)) (keys extent left))) K.zero) (below 0 (extent v))) ≡ cond (cond d (within extent left k) false) (g (b ∷ k)) K.zero
      go true e ih = let lt = ltb-true b (extent v) e in total_at K laws (λ c. look K laws k (tabled (λ j. g (c ∷ j)) (keys extent left))) b 0 (extent v) (omega arith) (omega arith) ∙ ih b
      go false e ih =
          let le = ltb-false b (extent v) e in
          total_below (λ c. cond (eqb b c) (look K laws k (tabled (λ j. g (c ∷ j)) (keys extent left))) K.zero) 0 (extent v)
          (λ c lt. ap (λ d. cond d (look K laws k (tabled (λ j. g (c ∷ j)) (keys extent left))) K.zero) (ne_eqb b c (λ q. omega arith)))
