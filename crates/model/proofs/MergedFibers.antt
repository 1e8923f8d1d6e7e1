-- Merged coordinates ascend and are below the extent. Assumes nothing.
use Rattle.std.proofs.Common.{◌≡◌, ℕ, ◌<◌, Bool, true, false, cond, List, [], ◌∷◌, Option, sym, refl, subst}
use Rattle.std.specs.List.{AllByRecursion}
use Rattle.model.specs.Semirings.{Algebra, Laws}
use Rattle.model.specs.Fibers.{coords, fiber_at}
use Rattle.model.specs.Tensors.{Storage, has}
use Rattle.model.specs.Terms.{Access, Expr, operand, product, sum, Parts, last, more, nth_access, occurs}
use Rattle.model.specs.Blocks.{in_both, in_either}
use Rattle.model.specs.Running.{nth_level}
use Rattle.model.specs.Lowering.{place}
use Rattle.model.proofs.Fit.{Good}
use Rattle.model.proofs.MergedLists.{all_both, ascends_both, all_either, ascends_either}
use Rattle.model.proofs.MergeMeaning.{meant, meant_parts, folds, fold_of}
use Rattle.model.proofs.PathTrees.{leaf_coords, node}
use Rattle.model.proofs.PathSums.{MergesWell}
use Rattle.model.proofs.DeadPaths.{point}

folds_good : (e : ℕ) (f : List ℕ → List ℕ → List ℕ) → ((a b : List ℕ) → Good e a → Good e b → Good e (f a b)) → (a : List ℕ) (ls : List (List ℕ)) → Good e a → AllByRecursion (Good e) ls → Good e (folds f a ls)
folds_good e f keeps a [] g h = g
folds_good e f keeps a (b ∷ ls) g h = folds_good e f keeps (f a b) ls (keeps a b g h.0) h.1

fold_good : (e : ℕ) (f : List ℕ → List ℕ → List ℕ) → ((a b : List ℕ) → Good e a → Good e b → Good e (f a b)) → (ls : List (List ℕ)) → AllByRecursion (Good e) ls → Good e (fold_of [] f ls)
fold_good e f keeps [] h = (tt, tt)
fold_good e f keeps (a ∷ ls) h = folds_good e f keeps a ls h.0 h.1

module _ (acs : List Access) (v e : ℕ) (F : ℕ → List ℕ) (fits : (i : ℕ) → has (nth_access acs i).vars v ≡ true → Good e (F i)) where
  abbrev L : Expr → List ℕ
  L = meant in_both in_either [] (occurs acs v) F

  abbrev Ls : Parts → List (List ℕ)
  Ls = meant_parts in_both in_either [] (occurs acs v) F

  meets : (a b : List ℕ) → Good e a → Good e b → Good e (in_both a b)
  meets a b g h = (ascends_both a b g.0, all_both (λ c. c < e) a b g.1)

  joins : (a b : List ℕ) → Good e a → Good e b → Good e (in_either a b)
  joins a b g h = (ascends_either a b h.0, all_either (λ c. c < e) a b g.1 h.1)

  one : (x : Expr) (b : Bool) (ls ms : List (List ℕ)) → (b ≡ true → Good e (L x)) → AllByRecursion (Good e) ls → AllByRecursion (Good e) ms → AllByRecursion (Good e) (cond b (L x ∷ ls) ms)
  one x true ls ms g h k = (g refl, h)
  one x false ls ms g h k = k

  mutual
    pub good : (x : Expr) → occurs acs v x ≡ true → Good e (L x)
    good (operand i) o = fits i o
    good (product ps) o = fold_good e in_both meets (Ls ps) (goods ps)
    good (sum ps) o = fold_good e in_either joins (Ls ps) (goods ps)

    goods : (ps : Parts) → AllByRecursion (Good e) (Ls ps)
    goods (last x) = one x (occurs acs v x) [] [] (λ o. good x o) tt tt
    goods (more x ps) = let rest = goods ps in one x (occurs acs v x) (Ls ps) (Ls ps) (λ o. good x o) rest rest

module _ {V : Type 0} (K : Algebra V) (laws : Laws K) (T : ℕ → Storage V) (acs : List Access) (body : Expr) (extent : ℕ → ℕ) where
  pub merges_well :
      ((i v : ℕ) → has (nth_access acs i).vars v ≡ true → (r : Option ℕ) → Good (extent v) (coords (fiber_at (nth_level T (nth_access acs i).slot (place (nth_access acs i).vars v)) r)))
      → (vs : List ℕ) → AllByRecursion (λ v. occurs acs v body ≡ true) vs → MergesWell K laws T acs body extent vs
  merges_well fits [] o = tt
  merges_well fits (v ∷ vs) o = (
    λ p. subst (Good (extent v)) (sym (point in_both in_either [] (occurs acs v) (leaf_coords K T acs body v vs) p body))
        (good acs v (extent v) (λ i. leaf_coords K T acs body v vs i p) (λ i h. fits i v h (node K T acs body (nth_access acs i) vs p)) body o.0),
    merges_well fits vs o.1,
  )
