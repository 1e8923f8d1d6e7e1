-- What a term adds at a key is its part of the dense sum of products. Assumes nothing.
use Rattle.std.proofs.Common.{◌≡◌, ℕ, zero, suc, ◌<◌, Bool, true, false, cond, not, ◌&&◌, List, [], ◌∷◌, map, reverse, length, sym, refl, ap, ◌∙◌, subst, ap₂, arith}
use mathlib.Core.Bool.{false≢true}
use mathlib.Core.List.{reverse-cons, reverse-reverse}
use lib.ListN.{length-map}
use Rattle.std.specs.List.{AllByRecursion, flat_map}
use Rattle.std.proofs.ByRecursion.{All-push}
use Rattle.model.specs.Semirings.{Algebra, Laws, total}
use Rattle.model.specs.Tensors.{Storage, has, same}
use Rattle.model.specs.Terms.{Access, Expr, operand, product, sum, Parts, last, more, Term, nth_access, occurs, kept, variables}
use Rattle.model.specs.Blocks.{Key}
use Rattle.model.specs.Sums.{Assignment, bind_all, Bag, bags, reduced, sum_over, dense_at, distinct, bag_sum}
use Rattle.model.proofs.Fit.{Placed, PlacedIn, Distinct, FitTerm}
use Rattle.model.proofs.MergedLists.{and_false}
use Rattle.model.proofs.Variables.{in_kept, kept_within, kept_has, distinct_has, distinct_once, has_reverse, distinct_reverse, distinct_kept}
use Rattle.model.proofs.MergeMeaning.{meant, meant_parts, fold_of}
use Rattle.model.proofs.PathTrees.{LeafPath, value_of, load_of, sum_down, over_vars, entries}
use Rattle.model.proofs.PathSums.{over_paths_same, at_key, entries_sum, paths_all}
use Rattle.model.proofs.DeadPaths.{point}
use Rattle.model.proofs.Assignments.{assign, pick, picked, bound, over_same}
use Rattle.model.proofs.PathReferences.{used, load_held, dead_value}
use Rattle.model.proofs.PathKeys.{distinct_rest, has_rest, key_is, counted, sums_rest, over_assigned, over_all_same}
use Rattle.model.proofs.MergedFibers.{merges_well}
use Rattle.model.proofs.Distribution.{in_bag, expr_value, distribute, over_bags, bags_occur, of_bag}
use Rattle.model.proofs.SummationOrder.{over_rearranged}

all_reverse : (P : ℕ → Type 0) (xs : List ℕ) → AllByRecursion P xs → AllByRecursion P (reverse xs)
all_reverse P [] h = tt
all_reverse P (x ∷ xs) h = subst (AllByRecursion P) (sym (reverse-cons x xs)) (All-push P (reverse xs) x (all_reverse P xs h.1) h.0)

all_kept : (p : ℕ → Bool) (xs : List ℕ) → AllByRecursion (λ v. p v ≡ true) (kept p xs)
all_kept p [] = tt
all_kept p (x ∷ xs) = go (p x) refl (all_kept p xs)
  where
    go : (b : Bool) → p x ≡ b → AllByRecursion (λ v. p v ≡ true) (kept p xs) → AllByRecursion (λ v. p v ≡ true) (cond b (x ∷ kept p xs) (kept p xs))
    go true e ih = (e, ih)
    go false e ih = ih

-- the variables of a bag that are not on the left
pub reduced_has : (left : List ℕ) (b : Bag) (v : ℕ) → has (reduced left b) v ≡ (in_bag b v && not (has left v))
reduced_has left b v =
    kept_has (λ w. not (has left w)) (distinct (flat_map (λ a. a.vars) b)) v ∙ ap (λ c. c && not (has left v)) (distinct_has (flat_map (λ a. a.vars) b) v)

pub reduced_once : (left : List ℕ) (b : Bag) → Distinct (reduced left b)
reduced_once left b = distinct_kept (λ w. not (has left w)) (distinct (flat_map (λ a. a.vars) b)) (distinct_once (flat_map (λ a. a.vars) b))

access_below : (acs : List Access) (i v : ℕ) → has (nth_access acs i).vars v ≡ true → i < length acs
access_below [] i v h = absurd (false≢true h)
access_below (a ∷ acs) zero v h = omega arith
access_below (a ∷ acs) (suc i) v h = let lt = access_below acs i v h in omega arith

pub map_all : {A : Type 0} {V : Type 0} (P : A → Type 0) (f g : A → V) → ((a : A) → P a → f a ≡ g a) → (xs : List A) → AllByRecursion P xs → map f xs ≡ map g xs
map_all P f g h [] k = refl
map_all {A} {V} P f g h (x ∷ xs) k = ap₂ (λ y (l : List V). y ∷ l) (h x k.0) (map_all P f g h xs k.1)

pub all_of_each : {A B : Type 0} (P : B → A → Type 0) → (xs : List A) → ((b : B) → AllByRecursion (P b) xs) → AllByRecursion (λ a. (b : B) → P b a) xs
all_of_each P [] h = tt
all_of_each P (x ∷ xs) h = (λ b. (h b).0, all_of_each P xs (λ b. (h b).1))

module _ {G : Type 0} (by plus : G → G → G) (o : G) (f g : ℕ → G) (n : ℕ) (h : (i : ℕ) → i < n → f i ≡ g i) where
  mutual
    meant_same : (e : Expr) → Placed n e → meant by plus o (λ e. true) f e ≡ meant by plus o (λ e. true) g e
    meant_same (operand i) p = h i p
    meant_same (product ps) p = ap (fold_of o by) (parts_same ps p)
    meant_same (sum ps) p = ap (fold_of o plus) (parts_same ps p)

    parts_same : (ps : Parts) → PlacedIn n ps → meant_parts by plus o (λ e. true) f ps ≡ meant_parts by plus o (λ e. true) g ps
    parts_same (last e) p = ap (λ x. x ∷ []) (meant_same e p)
    parts_same (more e ps) p = ap₂ (λ x (l : List G). x ∷ l) (meant_same e p.0) (parts_same ps p.1)

module _ {V : Type 0} (K : Algebra V) (laws : Laws K) (T : ℕ → Storage V) (extent : ℕ → ℕ) (dense : ℕ → List ℕ → V) (left order : List ℕ) (once : Distinct order) (t : Term) (fit : FitTerm K T extent dense left order t) where
  abbrev pub acs : List Access
  acs = t.accesses

  abbrev pub vs : List ℕ
  vs = reverse (variables order t)

  vars_distinct : Distinct vs
  vars_distinct = distinct_reverse (variables order t) (distinct_kept (λ v. occurs acs v t.body) order once)

  occurs_all : AllByRecursion (λ v. occurs acs v t.body ≡ true) vs
  occurs_all = all_reverse (λ v. occurs acs v t.body ≡ true) (variables order t) (all_kept (λ v. occurs acs v t.body) order)

  lefts : (w : ℕ) → has left w ≡ true → has vs w ≡ true
  lefts w h = has_reverse (variables order t) w ∙ in_kept (λ v. occurs acs v t.body) order w (fit.lefts w h) (fit.orders w (fit.lefts w h))

  uses : (i : ℕ) → i < length acs → (nth_access acs i).vars ≡ used (nth_access acs i) vs
  uses i lt =
      sym (fit.stored i lt).ordered ∙ sym (kept_within (has (nth_access acs i).vars) (λ v. occurs acs v t.body) order (fit.stands i))
      ∙ ap (kept (has (nth_access acs i).vars)) (sym (reverse-reverse (variables order t)))

  value_is : (s : Assignment) (p : LeafPath) → length p ≡ length vs → value_of K T acs t.body vs p ≡ expr_value K laws extent dense acs (assign s vs p) t.body
  value_is s p e =
      point K.product K.sum K.zero (λ x. true) (λ i. load_of K T acs t.body vs (nth_access acs i)) p t.body
      ∙ meant_same K.product K.sum K.zero (λ i. load_of K T acs t.body vs (nth_access acs i) p) (λ i. dense_at K extent dense (nth_access acs i) (assign s vs p)) (length acs)
      (λ i lt. load_held K T acs t.body (nth_access acs i) s vs p e vars_distinct (uses i lt) ∙ (fit.stored i lt).holds (map (assign s vs p) (nth_access acs i).vars) (length-map (nth_access acs i).vars (assign s vs p)))
      t.body fit.placed

  abbrev pub at_assignment : Assignment → V
  at_assignment s = expr_value K laws extent dense acs s t.body

  -- what the term adds at k, as a sum over all coordinates
  pub adds_all : (s : Assignment) (k : Key) → at_key K laws T acs t.body extent k (entries K T left order t) ≡ sum_over K extent dense (variables order t) s (picked K laws extent dense left k at_assignment)
  adds_all s k =
      entries_sum K laws T acs t.body extent k _ (over_vars K T left order t) (sum_down K T acs t.body left vs (value_of K T acs t.body vs))
      ∙ over_paths_same K laws T acs t.body extent (over_vars K T left order t) _ (counted K laws T acs t.body extent s left k (over_vars K T left order t) (sum_down K T acs t.body left vs (value_of K T acs t.body vs)))
      (λ p e. ap (λ l. cond (same l k) (sum_down K T acs t.body left vs (value_of K T acs t.body vs) p) K.zero)
      (key_is K laws T acs t.body extent s left (over_vars K T left order t) p e (distinct_rest K T acs t.body left vs vars_distinct) (λ w h. has_rest K T acs t.body left vs w h (lefts w h))))
      ∙ sums_rest K laws T acs t.body extent s left k vs (value_of K T acs t.body vs)
      ∙ paths_all K laws T acs t.body extent vs (counted K laws T acs t.body extent s left k vs (value_of K T acs t.body vs))
      (merges_well K laws T acs t.body extent (λ i v h. (fit.stored i (access_below acs i v h)).fits v h) vs occurs_all)
      (λ p e d. zero_cond (same (map (assign s vs p) left) k) _ (dead_value K T acs t.body laws extent vs p fit.even occurs_all d))
      ∙ over_all_same K laws T acs t.body extent vs _ (λ p. picked K laws extent dense left k at_assignment (assign s vs p))
      (λ p e. ap (λ x. cond (same (map (assign s vs p) left) k) x K.zero) (value_is s p e))
      ∙ over_assigned K laws T acs t.body extent dense s vs [] (picked K laws extent dense left k at_assignment)
      ∙ ap (λ l. sum_over K extent dense l s (picked K laws extent dense left k at_assignment)) (reverse-reverse (variables order t))
    where
      zero_cond : (b : Bool) (x : V) → x ≡ K.zero → cond b x K.zero ≡ K.zero
      zero_cond true x e = e
      zero_cond false x e = refl

  -- the loop's order and a bag's own have the same variables
  variables_has : (v : ℕ) → has (variables order t) v ≡ occurs acs v t.body
  variables_has v = kept_has (λ w. occurs acs w t.body) order v ∙ go (occurs acs v t.body) refl
    where
      go : (b : Bool) → occurs acs v t.body ≡ b → (has order v && b) ≡ b
      go true e = ap (λ d. d && true) (fit.orders v e)
      go false e = and_false (has order v)

  own_order :
      (k : Key) (b : Bag) → ((v : ℕ) → in_bag b v ≡ occurs acs v t.body)
      → sum_over K extent dense (kept (λ v. not (has left v)) (variables order t)) (bind_all left k) (of_bag K laws extent dense b) ≡ bag_sum K extent dense left k b
  own_order k b h =
      over_rearranged K laws extent dense (kept (λ v. not (has left v)) (variables order t)) (reduced left b)
      (distinct_kept (λ v. not (has left v)) (variables order t) (distinct_kept (λ v. occurs acs v t.body) order once)) (reduced_once left b)
      (
      λ v. kept_has (λ w. not (has left w)) (variables order t) v ∙ ap (λ c. c && not (has left v)) (variables_has v ∙ sym (h v))
      ∙ sym (reduced_has left b v)
      )
      (bind_all left k) (of_bag K laws extent dense b)

  -- what the term adds at k is its part of the dense sum of products
  pub term_adds : (k : Key) → Distinct left → length k ≡ length left → ((v : ℕ) → has left v ≡ true → bind_all left k v < extent v)
      → at_key K laws T acs t.body extent k (entries K T left order t) ≡ total K (map (bag_sum K extent dense left k) (bags acs t.body))
  term_adds k d e lt =
      adds_all (bind_all left k) k
      ∙ pick K laws extent dense left k at_assignment (variables order t) (bind_all left k) (distinct_kept (λ v. occurs acs v t.body) order once) (bound left k d e) lt
      ∙ over_same K laws extent dense (kept (λ v. not (has left v)) (variables order t)) (bind_all left k) at_assignment _ (λ s. distribute K laws extent dense acs s t.body)
      ∙ over_bags K laws extent dense (kept (λ v. not (has left v)) (variables order t)) (bind_all left k) (bags acs t.body)
      ∙ ap (total K)
      (
      map_all (λ b. (v : ℕ) → in_bag b v ≡ occurs acs v t.body) _ (bag_sum K extent dense left k) (own_order k)
      (bags acs t.body) (all_of_each (λ v b. in_bag b v ≡ occurs acs v t.body) (bags acs t.body) (λ v. bags_occur acs v t.body (fit.even v)))
      )
