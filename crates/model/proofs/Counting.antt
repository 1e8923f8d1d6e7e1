-- Lists in which each element stands equally often are rearranged. Assumes nothing.
use Rattle.std.proofs.Common.{◌≡◌, ℕ, zero, suc, ◌+◌, ◌<◌, Bool, true, false, cond, ◌&&◌, eqb, List, [], ◌∷◌, ◌++◌, sym, refl, ap, ◌∙◌, subst, ap₂, true≢false, arith}
use Rattle.std.proofs.lemmas.Bool.{eq-eqb, eqb-true}
use Rattle.model.specs.Tensors.{same}
use Rattle.model.specs.Terms.{Access}
use Rattle.model.specs.Sums.{Bag, often, same_access, all_pass, equally_often, same_bag}
use Rattle.model.proofs.Variables.{and_parts}
use Rattle.model.proofs.Assignments.{same_is, same_self}

-- One list is the other rearranged, up to R.
abbrev pub Rearranged : {A : Type 0} → (A → A → Type 0) → List A → List A → Type 0
Rearranged R [] ys = ys ≡ []
Rearranged {A} R (x ∷ xs) ys = (us : List A) × (y : A) × (vs : List A) × (ys ≡ us ++ y ∷ vs) × R x y × Rearranged R xs (us ++ vs)

passes : {A : Type 0} (p : A → Bool) (xs ys : List A) → all_pass p (xs ++ ys) ≡ true → (all_pass p xs ≡ true) × (all_pass p ys ≡ true)
passes p [] ys h = (refl, h)
passes p (x ∷ xs) ys h = let q = and_parts (p x) (all_pass p (xs ++ ys)) h in let r = passes p xs ys q.1 in (ap₂ ◌&&◌ q.0 r.0, r.1)

all_when : {A : Type 0} (p : A → Bool) (xs : List A) → ((x : A) → p x ≡ true) → all_pass p xs ≡ true
all_when p [] h = refl
all_when p (x ∷ xs) h = ap₂ ◌&&◌ (h x) (all_when p xs h)

module _ {A : Type 0} (test : A → A → Bool) (t_refl : (x : A) → test x x ≡ true) (t_sym : (x y : A) → test x y ≡ true → test y x ≡ true) (t_trans : (x y z : A) → test x y ≡ true → test y z ≡ true → test x z ≡ true) where
  test_same : (x y z : A) → test x y ≡ true → test z x ≡ test z y
  test_same x y z h = go (test z x) (test z y) refl refl
    where
      go : (a b : Bool) → test z x ≡ a → test z y ≡ b → a ≡ b
      go true true p q = refl
      go true false p q = absurd (true≢false (sym (t_trans z x y p h) ∙ q))
      go false true p q = absurd (true≢false (sym (t_trans z y x q (t_sym x y h)) ∙ p))
      go false false p q = refl

  often_middle : (z : A) (us : List A) (y : A) (vs : List A) → often test z (us ++ y ∷ vs) ≡ cond (test z y) 1 0 + often test z (us ++ vs)
  often_middle z [] y vs = refl
  often_middle z (u ∷ us) y vs = let e = often_middle z us y vs in omega arith

  find : (x : A) (ys : List A) → 0 < often test x ys → (us : List A) × (y : A) × (vs : List A) × (ys ≡ us ++ y ∷ vs) × (test x y ≡ true)
  find x [] h = absurd (omega arith)
  find x (y ∷ ys) h = go (test x y) refl h (find x ys)
    where
      go : (b : Bool) → test x y ≡ b → 0 < cond b 1 0 + often test x ys → (0 < often test x ys → (us : List A) × (z : A) × (vs : List A) × (ys ≡ us ++ z ∷ vs) × (test x z ≡ true)) → (us : List A) × (z : A) × (vs : List A) × (y ∷ ys ≡ us ++ z ∷ vs) × (test x z ≡ true)
      go true e h1 ih = ([], y, ys, refl, e)
      go false e h1 ih = let r = ih (omega arith) in (y ∷ r.0, r.1, r.2, ap (λ (l : List A). y ∷ l) r.3, r.4)

  one_self : (x : A) → ◌≡◌ {A = ℕ} (cond (test x x) 1 0) 1
  one_self x = ap {B = ℕ} (λ b. cond b 1 0) (t_refl x)

  pub rearranged : (xs ys : List A) → ((z : A) → often test z xs ≡ often test z ys) → Rearranged (λ x y. test x y ≡ true) xs ys
  rearranged [] [] h = refl
  rearranged [] (y ∷ ys) h = let e = h y in let o = one_self y in absurd (omega arith)
  rearranged (x ∷ xs) ys h =
      let e = h x in let o = one_self x in
      let r = find x ys (omega arith) in
      (r.0, r.1, r.2, r.3, r.4, rearranged xs (r.0 ++ r.2) (λ z. less z r.0 r.1 r.2 r.3 r.4))
    where
      less : (z : A) (us : List A) (y : A) (vs : List A) → ys ≡ us ++ y ∷ vs → test x y ≡ true → often test z xs ≡ often test z (us ++ vs)
      less z us y vs is t =
          let a = h z in let b = ap (often test z) is in let c = often_middle z us y vs in
          let d : ◌≡◌ {A = ℕ} (cond (test z x) 1 0) (cond (test z y) 1 0) = ap {B = ℕ} (λ q. cond q 1 0) (test_same x y z t) in omega arith

  -- what is the same stands equally often
  often_same : (x y : A) (zs : List A) → test x y ≡ true → often test x zs ≡ often test y zs
  often_same x y [] h = refl
  often_same x y (z ∷ zs) h = ap₂ {C = ℕ} (λ q n. cond q 1 0 + n) (flip x z ∙ test_same x y z h ∙ flip z y) (often_same x y zs h)
    where
      flip : (u w : A) → test u w ≡ test w u
      flip u w = go (test u w) (test w u) refl refl
        where
          go : (a b : Bool) → test u w ≡ a → test w u ≡ b → a ≡ b
          go true true p q = refl
          go true false p q = absurd (true≢false (sym (t_sym u w p) ∙ q))
          go false true p q = absurd (true≢false (sym (t_sym w u q) ∙ p))
          go false false p q = refl

  -- a test that what is the same passes alike, and all of a list, is passed by whatever stands in it
  passed : (p : A → Bool) → ((x y : A) → test x y ≡ true → p x ≡ p y) → (a : A) (xs : List A) → all_pass p xs ≡ true → 0 < often test a xs → p a ≡ true
  passed p alike a [] h o = absurd (omega arith)
  passed p alike a (c ∷ xs) h o = let q = and_parts (p c) (all_pass p xs) h in go (test a c) refl o (passed p alike a xs q.1) q.0
    where
      go : (t : Bool) → test a c ≡ t → 0 < cond t 1 0 + often test a xs → (0 < often test a xs → p a ≡ true) → p c ≡ true → p a ≡ true
      go true e o1 ih pc = alike a c e ∙ pc
      go false e o1 ih pc = ih (omega arith)

  -- the computed test, for those that stand in the lists, says it of all
  pub counts : (xs ys : List A) → equally_often test xs ys ≡ true → (a : A) → often test a xs ≡ often test a ys
  counts xs ys h a = go (often test a xs) (often test a ys) refl refl
    where
      equal : A → Bool
      equal d = eqb (often test d xs) (often test d ys)

      both : (all_pass equal xs ≡ true) × (all_pass equal ys ≡ true)
      both = passes equal xs ys h

      alike : (x y : A) → test x y ≡ true → equal x ≡ equal y
      alike x y e = ap₂ eqb (often_same x y xs e) (often_same x y ys e)

      go : (m n : ℕ) → often test a xs ≡ m → often test a ys ≡ n → often test a xs ≡ often test a ys
      go zero zero p q = p ∙ sym q
      go (suc m) n p q = eqb-true _ _ (passed equal alike a xs both.0 (omega arith))
      go zero (suc n) p q = eqb-true _ _ (passed equal alike a ys both.1 (omega arith))

pub counted_equal : {A : Type 0} (test : A → A → Bool) (xs ys : List A) → ((a : A) → often test a xs ≡ often test a ys) → equally_often test xs ys ≡ true
counted_equal test xs ys h = all_when (λ a. eqb (often test a xs) (often test a ys)) (xs ++ ys) (λ a. eq-eqb _ _ (h a))

access_is : (a b : Access) → same_access a b ≡ true → a ≡ b
access_is a b h = let p = and_parts (eqb a.slot b.slot) (same a.vars b.vars) h in λ i. record { slot = eqb-true a.slot b.slot p.0 i; vars = same_is a.vars b.vars p.1 i }

access_self : (a : Access) → same_access a a ≡ true
access_self a = ap₂ ◌&&◌ (eq-eqb a.slot a.slot refl) (same_self a.vars)

access_sym : (a b : Access) → same_access a b ≡ true → same_access b a ≡ true
access_sym a b h = subst (λ c. same_access c a ≡ true) (access_is a b h) (access_self a)

access_trans : (a b c : Access) → same_access a b ≡ true → same_access b c ≡ true → same_access a c ≡ true
access_trans a b c h g = subst (λ d. same_access d c ≡ true) (sym (access_is a b h)) g

bag_often : (b c : Bag) → same_bag b c ≡ true → (a : Access) → often same_access a b ≡ often same_access a c
bag_often = counts same_access access_self access_sym access_trans

often_bag : (b c : Bag) → ((a : Access) → often same_access a b ≡ often same_access a c) → same_bag b c ≡ true
often_bag = counted_equal same_access

bag_self : (b : Bag) → same_bag b b ≡ true
bag_self b = often_bag b b (λ a. refl)

bag_sym : (b c : Bag) → same_bag b c ≡ true → same_bag c b ≡ true
bag_sym b c e = often_bag c b (λ a. sym (bag_often b c e a))

bag_trans : (b c d : Bag) → same_bag b c ≡ true → same_bag c d ≡ true → same_bag b d ≡ true
bag_trans b c d e f = often_bag b d (λ a. bag_often b c e a ∙ bag_often c d f a)

turned : {A : Type 0} (R S : A → A → Type 0) → ((x y : A) → R x y → S x y) → (xs ys : List A) → Rearranged R xs ys → Rearranged S xs ys
turned R S f [] ys h = h
turned R S f (x ∷ xs) ys h = (h.0, h.1, h.2, h.3, f x h.1 h.4, turned R S f xs (h.0 ++ h.2) h.5)

-- bags that stand equally often in both: the one list rearranged, and each bag
pub alike_rearranged : (bs cs : List Bag) → equally_often same_bag bs cs ≡ true → Rearranged (Rearranged (λ (a b : Access). a ≡ b)) bs cs
alike_rearranged bs cs h =
    turned (λ b c. same_bag b c ≡ true) (Rearranged (λ (a b : Access). a ≡ b))
    (λ b c e. turned (λ x y. same_access x y ≡ true) (λ x y. x ≡ y) access_is b c (rearranged same_access access_self access_sym access_trans b c (bag_often b c e)))
    bs cs (rearranged same_bag bag_self bag_sym bag_trans bs cs (counts same_bag bag_self bag_sym bag_trans bs cs h))
