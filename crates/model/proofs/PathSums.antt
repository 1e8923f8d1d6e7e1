-- The sum over the paths, and the sum over all coordinates. Assumes nothing.
use Rattle.std.proofs.Common.{◌≡◌, ℕ, zero, suc, ◌<◌, false, cond, ◌⊎◌, List, [], ◌∷◌, ◌++◌, map, length, refl, ap, ◌∙◌, inl, inr}
use mathlib.Core.Path.{fun_ext}
use mathlib.Core.List.{map-map, map-append}
use Rattle.std.specs.List.{flat_map, AllByRecursion}
use Rattle.model.specs.Semirings.{Algebra, Laws, total}
use Rattle.model.specs.Fibers.{Ascends}
use Rattle.model.specs.Tensors.{Storage, has, same}
use Rattle.model.specs.Trees.{Tree, gathered}
use Rattle.model.specs.Terms.{Access, Expr}
use Rattle.model.specs.Blocks.{Key, key}
use Rattle.model.specs.Sums.{below}
use Rattle.model.proofs.Totals.{sum_zero_right, total_zeros, total_gathered, total_live}
use Rattle.model.proofs.Fusion.{gathered_each}
use Rattle.model.proofs.PathTrees.{LeafPath, live, tree, sum_of, entries_at}

map_joined : {A B C : Type 0} (h : B → C) (g : A → List B) (xs : List A) → map h (flat_map g xs) ≡ flat_map (λ a. map h (g a)) xs
map_joined h g [] = refl
map_joined {A} {B} {C} h g (x ∷ xs) = map-append h (g x) (flat_map g xs) ∙ ap (λ (l : List C). map h (g x) ++ l) (map_joined h g xs)

pub map_gathered : {A B C : Type 0} (h : B → C) (g : A → List B) (d : ℕ) (t : Tree A d) → map h (gathered g d t) ≡ gathered (λ a. map h (g a)) d t
map_gathered h g zero t = refl
map_gathered h g (suc d) t = map_gathered h (flat_map g) d t ∙ ap (λ k. gathered k d t) (fun_ext (map_joined h g))

module _ {V : Type 0} (K : Algebra V) (laws : Laws K) (T : ℕ → Storage V) (acs : List Access) (body : Expr) (extent : ℕ → ℕ) where
  -- the sum over the paths of the tree
  abbrev pub over_paths : List ℕ → (LeafPath → V) → V
  over_paths [] f = f []
  over_paths (v ∷ vs) f = over_paths vs (sum_of K T acs body v vs f)

  -- the sum over all coordinates
  abbrev pub all_of : ℕ → (LeafPath → V) → LeafPath → V
  all_of v f p = total K (map (λ c. f (c ∷ p)) (below 0 (extent v)))

  abbrev pub over_all : List ℕ → (LeafPath → V) → V
  over_all [] f = f []
  over_all (v ∷ vs) f = over_all vs (all_of v f)

  joined_ones : {A : Type 0} (f : A → V) (xs : List A) → flat_map (λ a. f a ∷ []) xs ≡ map f xs
  joined_ones f [] = refl
  joined_ones f (x ∷ xs) = ap (λ (l : List V). f x ∷ l) (joined_ones f xs)

  pub gathered_paths : (vs : List ℕ) (f : LeafPath → V) → total K (gathered (λ p. f p ∷ []) (length vs) (tree K T acs body vs)) ≡ over_paths vs f
  gathered_paths [] f = sum_zero_right K laws (f [])
  gathered_paths (v ∷ vs) f =
      ap (total K) (gathered_each (flat_map (λ p. f p ∷ [])) (λ p. map (λ c. c ∷ p) (live K T acs body v vs p)) (length vs) (tree K T acs body vs))
      ∙ total_gathered K laws (λ p. flat_map (λ q. f q ∷ []) (map (λ c. c ∷ p) (live K T acs body v vs p))) (length vs) (tree K T acs body vs)
      ∙ ap (λ g. total K (gathered g (length vs) (tree K T acs body vs)))
      (fun_ext λ p. ap {B = List V} (λ x. total K x ∷ []) (joined_ones f (map (λ c. c ∷ p) (live K T acs body v vs p)) ∙ map-map f (λ c. c ∷ p) (live K T acs body v vs p)))
      ∙ gathered_paths vs (sum_of K T acs body v vs f)

  -- what entries come to at a key
  abbrev pub at_key : Key → List (Key × V) → V
  at_key k es = total K (map (λ e. cond (same e.0 k) e.1 K.zero) es)

  pub entries_sum : (k : Key) (depths vs : List ℕ) (f : LeafPath → V) → at_key k (entries_at K T acs body depths vs f) ≡ over_paths vs (λ p. cond (same (key depths p) k) (f p) K.zero)
  entries_sum k depths vs f =
      ap (total K) (map_gathered (λ e. cond (same e.0 k) e.1 K.zero) (λ p. (key depths p, f p) ∷ []) (length vs) (tree K T acs body vs))
      ∙ gathered_paths vs (λ p. cond (same (key depths p) k) (f p) K.zero)

  pub over_paths_same : (vs : List ℕ) (f g : LeafPath → V) → ((p : LeafPath) → length p ≡ length vs → f p ≡ g p) → over_paths vs f ≡ over_paths vs g
  over_paths_same [] f g h = h [] refl
  over_paths_same (v ∷ vs) f g h =
      over_paths_same vs (sum_of K T acs body v vs f) (sum_of K T acs body v vs g)
      (λ p e. ap (λ k. total K (map k (live K T acs body v vs p))) (fun_ext λ c. h (c ∷ p) (ap suc e)))

  -- a path with a coordinate that is not among the merged ones
  abbrev pub Dead : List ℕ → LeafPath → Type 0
  Dead [] p = ⊥
  Dead (v ∷ vs) [] = ⊥
  Dead (v ∷ vs) (c ∷ p) = (has (live K T acs body v vs p) c ≡ false) ⊎ Dead vs p

  -- merged coordinates ascend, below the extent
  abbrev pub MergesWell : List ℕ → Type 0
  MergesWell [] = Unit {0}
  MergesWell (v ∷ vs) = ((p : LeafPath) → Ascends (live K T acs body v vs p) × AllByRecursion (λ c. c < extent v) (live K T acs body v vs p)) × MergesWell vs

  -- the sum over the paths is the sum over all coordinates, where dead paths are zero
  pub paths_all : (vs : List ℕ) (f : LeafPath → V) → MergesWell vs → ((p : LeafPath) → length p ≡ length vs → Dead vs p → f p ≡ K.zero) → over_paths vs f ≡ over_all vs f
  paths_all [] f well dead = refl
  paths_all (v ∷ vs) f well dead =
      over_paths_same vs (sum_of K T acs body v vs f) (all_of v f)
      (λ p e. total_live K laws (λ c. f (c ∷ p)) (extent v) (live K T acs body v vs p) (well.0 p).0 (well.0 p).1 (λ c q. dead (c ∷ p) (ap suc e) (inl q)))
      ∙ paths_all vs (all_of v f) well.1 (λ p e d. total_zeros K laws (λ c. f (c ∷ p)) (below 0 (extent v)) (λ c. dead (c ∷ p) (ap suc e) (inr d)))
