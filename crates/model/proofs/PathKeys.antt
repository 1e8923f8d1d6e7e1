-- The key of a leaf is the left variables' coordinates; sums of reduced variables may be left for later. Assumes nothing.
use Rattle.std.proofs.Common.{◌≡◌, ℕ, suc, ◌+◌, ◌-◌, Bool, true, false, cond, ◌||◌, eqb, List, [], ◌∷◌, ◌++◌, map, reverse, length, get_or, sym, refl, ap, ◌∙◌, ap₂, true≢false, arith}
use mathlib.Core.Path.{fun_ext}
use mathlib.Core.Bool.{false≢true}
use mathlib.Core.List.{map-map, reverse-cons, reverse_aux}
use lib.ListN.{length-reverse, get_or-append}
use Rattle.std.proofs.lemmas.List.{get_or_push}
use Rattle.std.proofs.lemmas.Bool.{eqb-true}
use Rattle.model.specs.Semirings.{Algebra, Laws, total}
use Rattle.model.specs.Tensors.{Storage, has, same}
use Rattle.model.specs.Terms.{Access, Expr}
use Rattle.model.specs.Blocks.{Key, key}
use Rattle.model.specs.Lowering.{place}
use Rattle.model.specs.Sums.{below, Assignment, bind, sum_over}
use Rattle.model.proofs.Fit.{Distinct}
use Rattle.model.proofs.Totals.{total_zeros}
use Rattle.model.proofs.Variables.{place_front, has_reverse}
use Rattle.model.proofs.PathTrees.{LeafPath, live, rest, sum_of, sum_down}
use Rattle.model.proofs.PathSums.{over_paths, over_paths_same, over_all, all_of}
use Rattle.model.proofs.Assignments.{assign, map_agree, bind_other, not_there}
use Rattle.model.proofs.PathReferences.{place_at}

pub at_place : (s : Assignment) (vs : List ℕ) (p : LeafPath) (w : ℕ) → length p ≡ length vs → Distinct vs → has vs w ≡ true → get_or (reverse p) (place (reverse vs) w) 0 ≡ assign s vs p w
at_place s [] p w e d h = absurd (false≢true h)
at_place s (v ∷ vs) [] w e d h = absurd (omega arith)
at_place s (v ∷ vs) (c ∷ p) w e d h =
    ap₂ (λ (l : List ℕ) m. get_or l (place m w) 0) (reverse-cons c p) (reverse-cons v vs) ∙ go (eqb v w) refl h (λ h1. at_place s vs p w (omega arith) d.1 h1)
  where
    go : (b : Bool) → eqb v w ≡ b → (b || has vs w) ≡ true → (has vs w ≡ true → get_or (reverse p) (place (reverse vs) w) 0 ≡ assign s vs p w) → get_or (reverse p ++ c ∷ []) (place (reverse vs ++ v ∷ []) w) 0 ≡ cond b c (assign s vs p w)
    go true q h1 ih =
        let last : place (reverse vs ++ v ∷ []) w ≡ length (reverse vs) = ap (place (reverse vs ++ v ∷ [])) (sym (eqb-true v w q)) ∙ place_at (reverse vs) [] v (has_reverse vs v ∙ d.0) in
        get_or_push (reverse p) c 0 _ (length-reverse p ∙ (let e1 : length p ≡ length vs = omega arith in e1) ∙ sym (length-reverse vs) ∙ sym last)
    go false q h1 ih =
        let front = place_front (reverse vs) (v ∷ []) w (has_reverse vs w ∙ h1) in
        ap (λ n. get_or (reverse p ++ c ∷ []) n 0) front.0
        ∙ get_or-append (reverse p) (c ∷ []) 0 (place (reverse vs) w) (omega (arith, front.1, length-reverse p, length-reverse vs, e)) ∙ ih h1

map_same : (xs : List ℕ) (f g : ℕ → ℕ) → ((w : ℕ) → has xs w ≡ true → f w ≡ g w) → map f xs ≡ map g xs
map_same = map_agree

module _ {V : Type 0} (K : Algebra V) (T : ℕ → Storage V) (acs : List Access) (body : Expr) where
  pub distinct_rest : (left vs : List ℕ) → Distinct vs → Distinct (rest K T acs body left vs)
  distinct_rest left [] d = tt
  distinct_rest left (v ∷ vs) d = go (has left v) (distinct_rest left vs d.1)
    where
      go : (b : Bool) → Distinct (rest K T acs body left vs) → Distinct (cond b (v ∷ vs) (rest K T acs body left vs))
      go true ih = d
      go false ih = ih

  pub has_rest : (left vs : List ℕ) (w : ℕ) → has left w ≡ true → has vs w ≡ true → has (rest K T acs body left vs) w ≡ true
  has_rest left [] w l h = h
  has_rest left (v ∷ vs) w l h = go (has left v) (eqb v w) refl refl h (has_rest left vs w l)
    where
      go : (b d : Bool) → has left v ≡ b → eqb v w ≡ d → (d || has vs w) ≡ true → (has vs w ≡ true → has (rest K T acs body left vs) w ≡ true) → has (cond b (v ∷ vs) (rest K T acs body left vs)) w ≡ true
      go true d q r h1 ih = h
      go false true q r h1 ih = absurd (true≢false (sym l ∙ ap (has left) (sym (eqb-true v w r)) ∙ q))
      go false false q r h1 ih = ih h1

module _ {V : Type 0} (K : Algebra V) (laws : Laws K) (T : ℕ → Storage V) (acs : List Access) (body : Expr) (extent : ℕ → ℕ) where
  pub key_is :
      (s : Assignment) (left vs : List ℕ) (p : LeafPath) → length p ≡ length vs → Distinct vs → ((w : ℕ) → has left w ≡ true → has vs w ≡ true)
      → key (map (λ v. place (reverse vs) v + 1) left) p ≡ map (assign s vs p) left
  key_is s left vs p e d all =
      map-map (λ m. get_or (reverse p) (m - 1) 0) (λ v. place (reverse vs) v + 1) left
      ∙ map_same left (λ v. get_or (reverse p) (place (reverse vs) v + 1 - 1) 0) (assign s vs p)
      (λ w h. (let one : place (reverse vs) w + 1 - 1 ≡ place (reverse vs) w = omega arith in ap (λ n. get_or (reverse p) n 0) one) ∙ at_place s vs p w e d (all w h))

  -- an entry counts at the key
  abbrev pub counted : Assignment → List ℕ → Key → List ℕ → (LeafPath → V) → LeafPath → V
  counted s left k vs f p = cond (same (map (assign s vs p) left) k) (f p) K.zero

  total_cond : {A : Type 0} (b : Bool) (f : A → V) (xs : List A) → total K (map (λ a. cond b (f a) K.zero) xs) ≡ cond b (total K (map f xs)) K.zero
  total_cond true f xs = refl
  total_cond false f xs = total_zeros K laws (λ a. K.zero) xs (λ a. refl)

  pub sums_rest :
      (s : Assignment) (left : List ℕ) (k : Key) (vs : List ℕ) (f : LeafPath → V)
      → over_paths K laws T acs body extent (rest K T acs body left vs) (counted s left k (rest K T acs body left vs) (sum_down K T acs body left vs f)) ≡ over_paths K laws T acs body extent vs (counted s left k vs f)
  sums_rest s left k [] f = refl
  sums_rest s left k (v ∷ vs) f = go (has left v) refl (sums_rest s left k vs (sum_of K T acs body v vs f))
    where
      go : (b : Bool) → has left v ≡ b
          → over_paths K laws T acs body extent (rest K T acs body left vs) (counted s left k (rest K T acs body left vs) (sum_down K T acs body left vs (sum_of K T acs body v vs f))) ≡ over_paths K laws T acs body extent vs (counted s left k vs (sum_of K T acs body v vs f))
          → over_paths K laws T acs body extent (cond b (v ∷ vs) (rest K T acs body left vs)) (counted s left k (cond b (v ∷ vs) (rest K T acs body left vs)) (cond b f (sum_down K T acs body left vs (sum_of K T acs body v vs f)))) ≡ over_paths K laws T acs body extent (v ∷ vs) (counted s left k (v ∷ vs) f)
      go true q ih = refl
      go false q ih =
          ih ∙ over_paths_same K laws T acs body extent vs (counted s left k vs (sum_of K T acs body v vs f)) (sum_of K T acs body v vs (counted s left k (v ∷ vs) f))
          (
          λ p e.
          sym (total_cond (same (map (assign s vs p) left) k) (λ c. f (c ∷ p)) (live K T acs body v vs p))
          ∙ ap (λ g. total K (map g (live K T acs body v vs p)))
          (fun_ext λ c. ap (λ l. cond (same l k) (f (c ∷ p)) K.zero) (sym (map_agree left (bind v c (assign s vs p)) (assign s vs p) (λ w h. bind_other v c w (assign s vs p) (not_there v w left q h)))))
          )

  -- all coordinates of the variables, the outermost first
  pub over_assigned :
      (dense : ℕ → List ℕ → V) (s : Assignment) (vs ws : List ℕ) (g : Assignment → V)
      → over_all K laws T acs body extent vs (λ p. sum_over K extent dense ws (assign s vs p) g) ≡ sum_over K extent dense (reverse_aux vs ws) s g
  over_assigned dense s [] ws g = refl
  over_assigned dense s (v ∷ vs) ws g = over_assigned dense s vs (v ∷ ws) g

  pub over_all_same : (vs : List ℕ) (f g : LeafPath → V) → ((p : LeafPath) → length p ≡ length vs → f p ≡ g p) → over_all K laws T acs body extent vs f ≡ over_all K laws T acs body extent vs g
  over_all_same [] f g h = h [] refl
  over_all_same (v ∷ vs) f g h =
      over_all_same vs (all_of K laws T acs body extent v f) (all_of K laws T acs body extent v g)
      (λ p e. ap (λ k. total K (map k (below 0 (extent v)))) (fun_ext λ c. h (c ∷ p) (ap suc e)))
