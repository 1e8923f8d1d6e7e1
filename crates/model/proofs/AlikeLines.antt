-- Lines with one left side that multiply out alike list the same; so does a line over values that agree where it looks. Assumes nothing.
use Rattle.std.proofs.Common.{◌≡◌, ℕ, true, not, ◌&&◌, ◌||◌, List, [], ◌∷◌, ◌++◌, map, sym, refl, ap, ◌∙◌, subst, ap₂}
use mathlib.Core.Path.{fun_ext}
use Rattle.std.specs.List.{flat_map}
use Rattle.model.specs.Semirings.{Algebra, Laws, total}
use Rattle.model.specs.Tensors.{has}
use Rattle.model.specs.Terms.{Access, Line}
use Rattle.model.specs.Blocks.{Key}
use Rattle.model.specs.Running.{results}
use Rattle.model.specs.Sums.{Bag, alike, multiplied_out, Assignment, bind_all, reduced, sum_over, dense_at, product_of, bag_sum, keys, listing}
use Rattle.model.proofs.MergedLists.{or_swap}
use Rattle.model.proofs.Variables.{has_append}
use Rattle.model.proofs.MergeMeaning.{Filled}
use Rattle.model.proofs.Distribution.{in_bag}
use Rattle.model.proofs.SummationOrder.{over_rearranged}
use Rattle.model.proofs.TermMeaning.{reduced_has, reduced_once}
use Rattle.model.proofs.Counting.{Rearranged, alike_rearranged}

module _ {V : Type 0} (K : Algebra V) (laws : Laws K) (extent : ℕ → ℕ) (dense : ℕ → List ℕ → V) where
  product_cons : (a : Access) (b : Bag) (s : Assignment) → Filled b → product_of K extent dense (a ∷ b) s ≡ K.product (dense_at K extent dense a s) (product_of K extent dense b s)
  product_cons a [] s h = absurd h
  product_cons a (c ∷ b) s h = refl

  filled_middle : (us : Bag) (a : Access) (vs : Bag) → Filled (us ++ a ∷ vs)
  filled_middle [] a vs = tt
  filled_middle (u ∷ us) a vs = tt

  product_middle : (us : Bag) (a : Access) (vs : Bag) (s : Assignment) → product_of K extent dense (us ++ a ∷ vs) s ≡ product_of K extent dense (a ∷ (us ++ vs)) s
  product_middle [] a vs s = refl
  product_middle (u ∷ us) a vs s = product_cons u (us ++ a ∷ vs) s (filled_middle us a vs) ∙ ap (K.product (dense_at K extent dense u s)) (product_middle us a vs s) ∙ go (us ++ vs)
    where
      du : V
      du = dense_at K extent dense u s

      da : V
      da = dense_at K extent dense a s

      go : (b : Bag) → K.product du (product_of K extent dense (a ∷ b) s) ≡ product_of K extent dense (a ∷ u ∷ b) s
      go [] = laws.product_comm du da
      go (c ∷ b) =
          sym (laws.product_assoc du da (product_of K extent dense (c ∷ b) s)) ∙ ap (λ x. K.product x (product_of K extent dense (c ∷ b) s)) (laws.product_comm du da)
          ∙ laws.product_assoc da du (product_of K extent dense (c ∷ b) s)

  product_rearranged : (b c : Bag) → Rearranged (λ (x y : Access). x ≡ y) b c → (s : Assignment) → product_of K extent dense b s ≡ product_of K extent dense c s
  product_rearranged [] c h s = ap (λ d. product_of K extent dense d s) (sym h)
  product_rearranged (a ∷ b) c h s =
      ap (λ x. product_of K extent dense (x ∷ b) s) h.4
      ∙ first h.1 b (h.0 ++ h.2) (product_rearranged b (h.0 ++ h.2) h.5 s) h.5
      ∙ sym (product_middle h.0 h.1 h.2 s) ∙ ap (λ d. product_of K extent dense d s) (sym h.3)
    where
      cons_nil : (x : Access) (us : Bag) (vs : Bag) → [] ≡ us ++ x ∷ vs → ⊥
      cons_nil x us vs e = subst Filled (sym e) (filled_middle us x vs)

      first : (x : Access) (d e : Bag) → product_of K extent dense d s ≡ product_of K extent dense e s → Rearranged (λ (p q : Access). p ≡ q) d e → product_of K extent dense (x ∷ d) s ≡ product_of K extent dense (x ∷ e) s
      first x [] e q r = ap (λ l. product_of K extent dense (x ∷ l) s) (sym r)
      first x (y ∷ d) [] q r = absurd (cons_nil r.1 r.0 r.2 r.3)
      first x (y ∷ d) (z ∷ e) q r = ap (K.product (dense_at K extent dense x s)) q

in_middle : (us : Bag) (a : Access) (vs : Bag) (v : ℕ) → in_bag (us ++ a ∷ vs) v ≡ (has a.vars v || in_bag (us ++ vs) v)
in_middle [] a vs v = has_append a.vars (flat_map (λ x. x.vars) vs) v
in_middle (u ∷ us) a vs v =
    has_append u.vars (flat_map (λ x. x.vars) (us ++ a ∷ vs)) v ∙ ap (λ b. has u.vars v || b) (in_middle us a vs v)
    ∙ or_swap (has u.vars v) (has a.vars v) (in_bag (us ++ vs) v)
    ∙ ap (λ b. has a.vars v || b) (sym (has_append u.vars (flat_map (λ x. x.vars) (us ++ vs)) v))

in_rearranged : (b c : Bag) → Rearranged (λ (x y : Access). x ≡ y) b c → (v : ℕ) → in_bag b v ≡ in_bag c v
in_rearranged [] c h v = ap (λ d. in_bag d v) (sym h)
in_rearranged (a ∷ b) c h v =
    has_append a.vars (flat_map (λ x. x.vars) b) v
    ∙ ap₂ (λ (x : Access) d. has x.vars v || d) h.4 (in_rearranged b (h.0 ++ h.2) h.5 v) ∙ sym (in_middle h.0 h.1 h.2 v) ∙ ap (λ d. in_bag d v) (sym h.3)

module _ {V : Type 0} (K : Algebra V) (laws : Laws K) (extent : ℕ → ℕ) (dense : ℕ → List ℕ → V) (left : List ℕ) (k : Key) where
  total_middle : (f : Bag → V) (us : List Bag) (y : Bag) (vs : List Bag) → total K (map f (us ++ y ∷ vs)) ≡ K.sum (f y) (total K (map f (us ++ vs)))
  total_middle f [] y vs = refl
  total_middle f (u ∷ us) y vs =
      ap (K.sum (f u)) (total_middle f us y vs) ∙ sym (laws.sum_assoc (f u) (f y) (total K (map f (us ++ vs)))) ∙ ap (λ x. K.sum x (total K (map f (us ++ vs)))) (laws.sum_comm (f u) (f y)) ∙ laws.sum_assoc (f y) (f u) (total K (map f (us ++ vs)))

  bag_alike : (b c : Bag) → Rearranged (λ (x y : Access). x ≡ y) b c → bag_sum K extent dense left k b ≡ bag_sum K extent dense left k c
  bag_alike b c r =
      over_rearranged K laws extent dense (reduced left b) (reduced left c) (reduced_once left b) (reduced_once left c)
      (λ v. reduced_has left b v ∙ ap (λ x. x && not (has left v)) (in_rearranged b c r v) ∙ sym (reduced_has left c v))
      (bind_all left k) (product_of K extent dense b)
      ∙ ap (sum_over K extent dense (reduced left c) (bind_all left k)) (fun_ext λ s. product_rearranged K laws extent dense b c r s)

  pub sums_alike :
      (bs cs : List Bag) → Rearranged (Rearranged (λ (x y : Access). x ≡ y)) bs cs
      → total K (map (bag_sum K extent dense left k) bs) ≡ total K (map (bag_sum K extent dense left k) cs)
  sums_alike [] cs r = ap (λ l. total K (map (bag_sum K extent dense left k) l)) (sym r)
  sums_alike (b ∷ bs) cs r =
      ap₂ K.sum (bag_alike b r.1 r.4) (sums_alike bs (r.0 ++ r.2) r.5)
      ∙ sym (total_middle (bag_sum K extent dense left k) r.0 r.1 r.2) ∙ ap (λ l. total K (map (bag_sum K extent dense left k) l)) (sym r.3)

-- Lines with one left side that multiply out alike list the same, whatever their loop orders and brackets.
pub sums_alike_lines :
    (V : Type 0) (K : Algebra V) → Laws K → (extent : ℕ → ℕ) (dense : ℕ → List ℕ → V) (l m : Line) → l.left ≡ m.left → alike l m ≡ true
    → listing K extent dense l ≡ listing K extent dense m
sums_alike_lines V K laws extent dense l m left same =
    ap (λ (g : Key → V). results K (map (λ k. (k, g k)) (keys extent l.left)))
    (fun_ext λ k. sums_alike K laws extent dense l.left k (multiplied_out l) (multiplied_out m) (alike_rearranged (multiplied_out l) (multiplied_out m) same))
    ∙ ap (λ (e : List ℕ). results K (map (λ k. (k, total K (map (bag_sum K extent dense e k) (multiplied_out m)))) (keys extent e))) left
