-- The accesses of a line are those of the bags that it multiplies out to. Assumes nothing.
use Rattle.std.proofs.Common.{◌≡◌, ◌⊎◌, List, [], ◌∷◌, ◌++◌, map, sym, refl, ap, subst, inl, inr}
use Rattle.std.specs.List.{flat_map, AllByRecursion}
use Rattle.std.proofs.ByRecursion.{All-map}
use Rattle.model.specs.Terms.{Access, Expr, operand, product, sum, Parts, last, more, nth_access}
use Rattle.model.specs.Sums.{Bag, bags, bags_product, bags_sum}
use Rattle.model.proofs.Faults.{all_append, all_front, all_back, all_as}
use Rattle.model.proofs.Readings.{standing, standing_in}

-- x is one of a list
abbrev pub In : {A : Type 0} → A → List A → Type 0
In x [] = ⊥
In x (y ∷ ys) = (y ≡ x) ⊎ In x ys

module _ {A : Type 0} where
  pub in_front : (x : A) (xs ys : List A) → In x xs → In x (xs ++ ys)
  in_front x [] ys h = absurd h
  in_front x (y ∷ xs) ys (inl e) = inl e
  in_front x (y ∷ xs) ys (inr h) = inr (in_front x xs ys h)

  pub in_back : (x : A) (xs ys : List A) → In x ys → In x (xs ++ ys)
  in_back x [] ys h = h
  in_back x (y ∷ xs) ys h = inr (in_back x xs ys h)

  pub in_map : {B : Type 0} (f : A → B) (x : A) (xs : List A) → In x xs → In (f x) (map f xs)
  in_map f x [] h = absurd h
  in_map f x (y ∷ xs) (inl e) = inl (ap f e)
  in_map f x (y ∷ xs) (inr h) = inr (in_map f x xs h)

  pub all_at : (P : A → Type 0) (x : A) (xs : List A) → AllByRecursion P xs → In x xs → P x
  all_at P x [] a h = absurd h
  all_at P x (y ∷ xs) a (inl e) = subst P e a.0
  all_at P x (y ∷ xs) a (inr h) = all_at P x xs a.1 h

  pub all_from_in : (P : A → Type 0) (xs : List A) → ((x : A) → In x xs → P x) → AllByRecursion P xs
  all_from_in P [] f = tt
  all_from_in P (x ∷ xs) f = (f x (inl refl), all_from_in P xs (λ y h. f y (inr h)))

  pub all_joins : {B : Type 0} (P : B → Type 0) (f : A → List B) (xs : List A) → AllByRecursion (λ x. AllByRecursion P (f x)) xs → AllByRecursion P (flat_map f xs)
  all_joins P f [] h = tt
  all_joins P f (x ∷ xs) h = all_append P (f x) (flat_map f xs) h.0 (all_joins P f xs h.1)

pub in_joined : {A B : Type 0} (f : A → List B) (x : A) (xs : List A) (y : B) → In x xs → In y (f x) → In y (flat_map f xs)
in_joined f x [] y h k = absurd h
in_joined f x (z ∷ xs) y (inl e) k = in_front y (f z) (flat_map f xs) (subst (λ w. In y (f w)) (sym e) k)
in_joined f x (z ∷ xs) y (inr h) k = in_back y (f z) (flat_map f xs) (in_joined f x xs y h k)

-- an access stands in one of the bags
abbrev pub Reached : Access → List Bag → Type 0
Reached a bs = (b : Bag) × In b bs × In a b

in_product : (b c : Bag) (bs cs : List Bag) → In b bs → In c cs → In (b ++ c) (flat_map (λ x. map (λ y. x ++ y) cs) bs)
in_product b c bs cs h k = in_joined (λ x. map (λ y. x ++ y) cs) b bs (b ++ c) h (in_map (λ y. b ++ y) c cs k)

module _ (acs : List Access) where
  mutual
    -- no expression multiplies out to nothing
    some_bag : (e : Expr) → (b : Bag) × In b (bags acs e)
    some_bag (operand i) = (nth_access acs i ∷ [], inl refl)
    some_bag (product ps) = some_product ps
    some_bag (sum ps) = some_sum ps

    some_product : (ps : Parts) → (b : Bag) × In b (bags_product acs ps)
    some_product (last e) = some_bag e
    some_product (more e ps) =
        let (b, h) = some_bag e in
        let (c, k) = some_product ps in
        (b ++ c, in_product b c (bags acs e) (bags_product acs ps) h k)

    some_sum : (ps : Parts) → (b : Bag) × In b (bags_sum acs ps)
    some_sum (last e) = some_bag e
    some_sum (more e ps) = let (b, h) = some_bag e in (b, in_front b (bags acs e) (bags_sum acs ps) h)

  mutual
    -- every access of an expression stands in one of its bags
    pub covered : (e : Expr) → AllByRecursion (λ a. Reached a (bags acs e)) (standing acs e)
    covered (operand i) = ((nth_access acs i ∷ [], inl refl, inl refl), tt)
    covered (product ps) = covered_product ps
    covered (sum ps) = covered_sum ps

    covered_product : (ps : Parts) → AllByRecursion (λ a. Reached a (bags_product acs ps)) (standing_in acs ps)
    covered_product (last e) = covered e
    covered_product (more e ps) =
        all_append (λ a. Reached a (bags_product acs (more e ps))) (standing acs e) (standing_in acs ps)
        (
        all_as (λ a. Reached a (bags acs e)) (λ a. Reached a (bags_product acs (more e ps)))
        (λ a r. let (b, h, k) = r in let (c, j) = some_product ps in (b ++ c, in_product b c (bags acs e) (bags_product acs ps) h j, in_front a b c k))
        (standing acs e) (covered e)
        )
        (
        all_as (λ a. Reached a (bags_product acs ps)) (λ a. Reached a (bags_product acs (more e ps)))
        (λ a r. let (c, j, k) = r in let (b, h) = some_bag e in (b ++ c, in_product b c (bags acs e) (bags_product acs ps) h j, in_back a b c k))
        (standing_in acs ps) (covered_product ps)
        )

    covered_sum : (ps : Parts) → AllByRecursion (λ a. Reached a (bags_sum acs ps)) (standing_in acs ps)
    covered_sum (last e) = covered e
    covered_sum (more e ps) =
        all_append (λ a. Reached a (bags_sum acs (more e ps))) (standing acs e) (standing_in acs ps)
        (
        all_as (λ a. Reached a (bags acs e)) (λ a. Reached a (bags_sum acs (more e ps)))
        (λ a r. let (b, h, k) = r in (b, in_front b (bags acs e) (bags_sum acs ps) h, k)) (standing acs e) (covered e)
        )
        (
        all_as (λ a. Reached a (bags_sum acs ps)) (λ a. Reached a (bags_sum acs (more e ps)))
        (λ a r. let (b, h, k) = r in (b, in_back b (bags acs e) (bags_sum acs ps) h, k)) (standing_in acs ps) (covered_sum ps)
        )

  -- what holds of every access of an expression holds in all its bags
  module _ (P : Access → Type 0) where
    all_products : (bs cs : List Bag) → AllByRecursion (AllByRecursion P) bs → AllByRecursion (AllByRecursion P) cs → AllByRecursion (AllByRecursion P) (flat_map (λ b. map (λ c. b ++ c) cs) bs)
    all_products bs cs h k =
        all_joins (AllByRecursion P) (λ b. map (λ c. b ++ c) cs) bs
        (all_as (AllByRecursion P) (λ b. AllByRecursion (AllByRecursion P) (map (λ c. b ++ c) cs)) (λ b hb. All-map (AllByRecursion P) (λ c. b ++ c) cs (all_as (AllByRecursion P) (λ c. AllByRecursion P (b ++ c)) (λ c hc. all_append P b c hb hc) cs k)) bs h)

    mutual
      pub bags_all : (e : Expr) → AllByRecursion P (standing acs e) → AllByRecursion (AllByRecursion P) (bags acs e)
      bags_all (operand i) h = (h, tt)
      bags_all (product ps) h = product_all ps h
      bags_all (sum ps) h = sum_all ps h

      product_all : (ps : Parts) → AllByRecursion P (standing_in acs ps) → AllByRecursion (AllByRecursion P) (bags_product acs ps)
      product_all (last e) h = bags_all e h
      product_all (more e ps) h =
          all_products (bags acs e) (bags_product acs ps)
          (bags_all e (all_front P (standing acs e) (standing_in acs ps) h)) (product_all ps (all_back P (standing acs e) (standing_in acs ps) h))

      sum_all : (ps : Parts) → AllByRecursion P (standing_in acs ps) → AllByRecursion (AllByRecursion P) (bags_sum acs ps)
      sum_all (last e) h = bags_all e h
      sum_all (more e ps) h =
          all_append (AllByRecursion P) (bags acs e) (bags_sum acs ps)
          (bags_all e (all_front P (standing acs e) (standing_in acs ps) h)) (sum_all ps (all_back P (standing acs e) (standing_in acs ps) h))
