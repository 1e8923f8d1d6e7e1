-- Multiplied out, an expression has the same value. Assumes nothing.
use Rattle.std.proofs.Common.{◌≡◌, ℕ, Bool, true, false, ◌||◌, List, [], ◌∷◌, ◌++◌, map, sym, refl, ap, ◌∙◌, subst, ap₂, true≢false, append-nil}
use mathlib.Core.Path.{fun_ext}
use mathlib.Core.List.{map-append}
use Rattle.std.specs.List.{flat_map, AllByRecursion}
use Rattle.std.proofs.ByRecursion.{All-append}
use Rattle.model.specs.Semirings.{Algebra, Laws, total}
use Rattle.model.specs.Tensors.{has}
use Rattle.model.specs.Terms.{Access, Expr, operand, product, sum, Parts, last, more, nth_access, occurs, occurs_in}
use Rattle.model.specs.Sums.{below, Assignment, bind, Bag, bags, bags_product, bags_sum, sum_over, dense_at, product_of}
use Rattle.model.proofs.Fit.{EachOccurs, Even, EvenIn}
use Rattle.model.proofs.Totals.{sum_zero_right, total_append, exchange}
use Rattle.model.proofs.MergedLists.{or_assoc}
use Rattle.model.proofs.Variables.{has_append, or_none}
use Rattle.model.proofs.MergeMeaning.{meant, meant_parts, folds, fold_of, Filled}

-- P of all products, from Q and R of the factors
pub all_products : (P Q R : Bag → Type 0) → ((b c : Bag) → Q b → R c → P (b ++ c)) → (bs cs : List Bag) → AllByRecursion Q bs → AllByRecursion R cs → AllByRecursion P (flat_map (λ b. map (λ c. b ++ c) cs) bs)
all_products P Q R f [] cs h k = tt
all_products P Q R f (b ∷ bs) cs h k = All-append P (map (λ c. b ++ c) cs) (flat_map (λ d. map (λ c. d ++ c) cs) bs) (one cs k) (all_products P Q R f bs cs h.1 k)
  where
    one : (ds : List Bag) → AllByRecursion R ds → AllByRecursion P (map (λ c. b ++ c) ds)
    one [] k1 = tt
    one (d ∷ ds) k1 = (f b d h.0 k1.0, one ds k1.1)

filled_append : (b c : Bag) → Filled b → Filled c → Filled (b ++ c)
filled_append [] c h k = absurd h
filled_append (a ∷ b) c h k = tt

-- whether an access of a bag has a variable
abbrev pub in_bag : Bag → ℕ → Bool
in_bag b v = has (flat_map (λ a. a.vars) b) v

pub in_bag_append : (b c : Bag) (v : ℕ) → in_bag (b ++ c) v ≡ (in_bag b v || in_bag c v)
in_bag_append [] c v = refl
in_bag_append (a ∷ b) c v =
    has_append a.vars (flat_map (λ x. x.vars) (b ++ c)) v ∙ ap (λ d. has a.vars v || d) (in_bag_append b c v)
    ∙ sym (or_assoc (has a.vars v) (in_bag b v) (in_bag c v)) ∙ ap (λ d. d || in_bag c v) (sym (has_append a.vars (flat_map (λ x. x.vars) b) v))

folds_first : {G : Type 0} (f : G → G → G) → ((x y z : G) → f (f x y) z ≡ f x (f y z)) → (a b : G) (bs : List G) → folds f (f a b) bs ≡ f a (folds f b bs)
folds_first f assoc a b [] = refl
folds_first f assoc a b (c ∷ bs) = ap (λ x. folds f x bs) (assoc a b c) ∙ folds_first f assoc a (f b c) bs

module _ (acs : List Access) where
  mutual
    pub bags_filled : (e : Expr) → AllByRecursion Filled (bags acs e)
    bags_filled (operand i) = (tt, tt)
    bags_filled (product ps) = products_filled ps
    bags_filled (sum ps) = sums_filled ps

    products_filled : (ps : Parts) → AllByRecursion Filled (bags_product acs ps)
    products_filled (last e) = bags_filled e
    products_filled (more e ps) = all_products Filled Filled Filled filled_append (bags acs e) (bags_product acs ps) (bags_filled e) (products_filled ps)

    sums_filled : (ps : Parts) → AllByRecursion Filled (bags_sum acs ps)
    sums_filled (last e) = bags_filled e
    sums_filled (more e ps) = All-append Filled (bags acs e) (bags_sum acs ps) (bags_filled e) (sums_filled ps)

  abbrev HasAs : ℕ → Bool → Bag → Type 0
  HasAs v b g = in_bag g v ≡ b

  each_is : (v : ℕ) (ps : Parts) → EachOccurs acs v ps → occurs_in acs v ps ≡ true
  each_is v (last e) h = h
  each_is v (more e ps) h = ap (λ b. b || occurs_in acs v ps) h.0

  all_as : (v : ℕ) {b d : Bool} → b ≡ d → (gs : List Bag) → AllByRecursion (HasAs v b) gs → AllByRecursion (HasAs v d) gs
  all_as v e gs h = subst (λ b. AllByRecursion (HasAs v b) gs) e h

  mutual
    -- every bag of an expression has the expression's variables
    pub bags_occur : (v : ℕ) (e : Expr) → Even acs v e → AllByRecursion (HasAs v (occurs acs v e)) (bags acs e)
    bags_occur v (operand i) ev = (ap (λ l. has l v) (append-nil (nth_access acs i).vars), tt)
    bags_occur v (product ps) ev = products_occur v ps ev
    bags_occur v (sum ps) ev = sums_occur v ps ev.0 (occurs_in acs v ps) refl ev.1

    products_occur : (v : ℕ) (ps : Parts) → EvenIn acs v ps → AllByRecursion (HasAs v (occurs_in acs v ps)) (bags_product acs ps)
    products_occur v (last e) ev = bags_occur v e ev
    products_occur v (more e ps) ev =
        all_products (HasAs v (occurs acs v e || occurs_in acs v ps)) (HasAs v (occurs acs v e)) (HasAs v (occurs_in acs v ps))
        (λ b c h k. in_bag_append b c v ∙ ap₂ ◌||◌ h k) (bags acs e) (bags_product acs ps) (bags_occur v e ev.0) (products_occur v ps ev.1)

    sums_occur : (v : ℕ) (ps : Parts) → EvenIn acs v ps → (b : Bool) → occurs_in acs v ps ≡ b → (occurs_in acs v ps ≡ true → EachOccurs acs v ps) → AllByRecursion (HasAs v (occurs_in acs v ps)) (bags_sum acs ps)
    sums_occur v (last e) ev b q each = bags_occur v e ev
    sums_occur v (more e ps) ev true q each =
        let all = each q in
        All-append (HasAs v (occurs acs v e || occurs_in acs v ps)) (bags acs e) (bags_sum acs ps)
        (all_as v (all.0 ∙ sym q) (bags acs e) (bags_occur v e ev.0))
        (all_as v (each_is v ps all.1 ∙ sym q) (bags_sum acs ps) (sums_occur v ps ev.1 true (each_is v ps all.1) (λ _. all.1)))
    sums_occur v (more e ps) ev false q each =
        let none = or_none (occurs acs v e) (occurs_in acs v ps) q in
        All-append (HasAs v (occurs acs v e || occurs_in acs v ps)) (bags acs e) (bags_sum acs ps)
        (all_as v (none.0 ∙ sym q) (bags acs e) (bags_occur v e ev.0))
        (all_as v (none.1 ∙ sym q) (bags_sum acs ps) (sums_occur v ps ev.1 false none.1 (λ h. absurd (true≢false (sym h ∙ none.1)))))

module _ {V : Type 0} (K : Algebra V) (laws : Laws K) (extent : ℕ → ℕ) (dense : ℕ → List ℕ → V) where
  abbrev pub of_bag : Bag → Assignment → V
  of_bag = product_of K extent dense

  product_append : (b c : Bag) (s : Assignment) → Filled b → Filled c → of_bag (b ++ c) s ≡ K.product (of_bag b s) (of_bag c s)
  product_append [] c s h k = absurd h
  product_append (a ∷ b) [] s h k = absurd k
  product_append (a ∷ []) (d ∷ c) s h k = refl
  product_append (a ∷ a1 ∷ b) (d ∷ c) s h k = ap (K.product (dense_at K extent dense a s)) (product_append (a1 ∷ b) (d ∷ c) s tt tt) ∙ sym (laws.product_assoc (dense_at K extent dense a s) (of_bag (a1 ∷ b) s) (of_bag (d ∷ c) s))

  abbrev sum_of_bags : List Bag → Assignment → V
  sum_of_bags bs s = total K (map (λ b. of_bag b s) bs)

  -- one bag by a sum of bags, and a sum by a sum
  one_by : (b : Bag) (cs : List Bag) (s : Assignment) → Filled b → AllByRecursion Filled cs → sum_of_bags (map (λ c. b ++ c) cs) s ≡ K.product (of_bag b s) (sum_of_bags cs s)
  one_by b [] s h k = sym (laws.product_comm (of_bag b s) K.zero ∙ laws.product_zero (of_bag b s))
  one_by b (c ∷ cs) s h k = ap₂ K.sum (product_append b c s h k.0) (one_by b cs s h k.1) ∙ sym (laws.product_sum (of_bag b s) (of_bag c s) (sum_of_bags cs s))

  all_by : (bs cs : List Bag) (s : Assignment) → AllByRecursion Filled bs → AllByRecursion Filled cs → sum_of_bags (flat_map (λ b. map (λ c. b ++ c) cs) bs) s ≡ K.product (sum_of_bags bs s) (sum_of_bags cs s)
  all_by [] cs s h k = sym (laws.product_zero (sum_of_bags cs s))
  all_by (b ∷ bs) cs s h k =
      ap (total K) (map-append (λ d. of_bag d s) (map (λ c. b ++ c) cs) (flat_map (λ d. map (λ c. d ++ c) cs) bs))
      ∙ total_append K laws (map (λ d. of_bag d s) (map (λ c. b ++ c) cs)) (map (λ d. of_bag d s) (flat_map (λ d. map (λ c. d ++ c) cs) bs))
      ∙ ap₂ K.sum (one_by b cs s h.0 k ∙ laws.product_comm (of_bag b s) (sum_of_bags cs s)) (all_by bs cs s h.1 k ∙ laws.product_comm (sum_of_bags bs s) (sum_of_bags cs s))
      ∙ sym (laws.product_sum (sum_of_bags cs s) (of_bag b s) (sum_of_bags bs s))
      ∙ laws.product_comm (sum_of_bags cs s) (K.sum (of_bag b s) (sum_of_bags bs s))

  module _ (acs : List Access) (s : Assignment) where
    abbrev pub expr_value : Expr → V
    expr_value = meant K.product K.sum K.zero (λ e. true) (λ i. dense_at K extent dense (nth_access acs i) s)

    abbrev part_values : Parts → List V
    part_values = meant_parts K.product K.sum K.zero (λ e. true) (λ i. dense_at K extent dense (nth_access acs i) s)

    first : (f : V → V → V) → ((x y z : V) → f (f x y) z ≡ f x (f y z)) → (x : V) (ps : Parts) → fold_of K.zero f (x ∷ part_values ps) ≡ f x (fold_of K.zero f (part_values ps))
    first f assoc x (last e) = refl
    first f assoc x (more e ps) = folds_first f assoc x (expr_value e) (part_values ps)

    mutual
      pub distribute : (e : Expr) → expr_value e ≡ sum_of_bags (bags acs e) s
      distribute (operand i) = sym (sum_zero_right K laws (dense_at K extent dense (nth_access acs i) s))
      distribute (product ps) = distribute_product ps
      distribute (sum ps) = distribute_sum ps

      distribute_product : (ps : Parts) → fold_of K.zero K.product (part_values ps) ≡ sum_of_bags (bags_product acs ps) s
      distribute_product (last e) = distribute e
      distribute_product (more e ps) =
          first K.product laws.product_assoc (expr_value e) ps ∙ ap₂ K.product (distribute e) (distribute_product ps)
          ∙ sym (all_by (bags acs e) (bags_product acs ps) s (bags_filled acs e) (products_filled acs ps))

      distribute_sum : (ps : Parts) → fold_of K.zero K.sum (part_values ps) ≡ sum_of_bags (bags_sum acs ps) s
      distribute_sum (last e) = distribute e
      distribute_sum (more e ps) =
          first K.sum laws.sum_assoc (expr_value e) ps ∙ ap₂ K.sum (distribute e) (distribute_sum ps)
          ∙ sym (ap (total K) (map-append (λ b. of_bag b s) (bags acs e) (bags_sum acs ps)) ∙ total_append K laws (map (λ b. of_bag b s) (bags acs e)) (map (λ b. of_bag b s) (bags_sum acs ps)))

  -- a sum over coordinates of a sum over bags
  pub over_bags : (vs : List ℕ) (s : Assignment) (bs : List Bag) → sum_over K extent dense vs s (sum_of_bags bs) ≡ total K (map (λ b. sum_over K extent dense vs s (of_bag b)) bs)
  over_bags [] s bs = refl
  over_bags (v ∷ vs) s bs =
      ap (λ (g : ℕ → V). total K (map g (below 0 (extent v)))) (fun_ext λ c. over_bags vs (bind v c s) bs)
      ∙ exchange K laws (λ c b. sum_over K extent dense vs (bind v c s) (of_bag b)) (below 0 (extent v)) bs
