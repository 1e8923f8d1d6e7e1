-- Lines that multiply out alike have the same accesses; over tensors that agree in the slots they name, the extents of their variables agree, and the dense values. Assumes nothing.
use Rattle.std.proofs.Common.{◌≡◌, ℕ, ◌+◌, ◌<◌, Bool, true, false, cond, eqb, List, [], ◌∷◌, ◌++◌, get_or, sym, refl, ap, ◌∙◌, subst, ap₂, inl, inr, arith}
use Rattle.std.specs.List.{AllByRecursion}
use Rattle.std.proofs.ByRecursion.{All-map}
use Rattle.std.proofs.lemmas.Bool.{eq-eqb, eqb-true, and_parts, and_from}
use Rattle.model.specs.Tensors.{has, same}
use Rattle.model.specs.Terms.{Access, Term, occurs}
use Rattle.model.specs.Grammar.{Tree, access, group, times, plus, Syntax}
use Rattle.model.specs.Reading.{Placed, accesses, expression, terms_from, term_of, line_of, body_place}
use Rattle.model.specs.Conditions.{extents_of, extent_of, tree_vars, Accepts}
use Rattle.model.specs.Lowering.{place}
use Rattle.model.specs.Meaning.{Tensors, extents_seen, dense_values, AgreeOn}
use Rattle.model.specs.Sums.{Bag, bags, multiplied_out, often, all_pass, equally_often, same_access, same_bag, alike}
use Rattle.model.proofs.Faults.{all_append, all_front, all_back, all_as, all_both, same_is, same_self, all_in_has}
use Rattle.model.proofs.Readings.{standing, standing_tree, from_start, all_terms, occurs_tree, has_some}
use Rattle.model.proofs.Acceptance.{Sound, sound, Whole, whole, clean}
use Rattle.model.proofs.Covers.{In, in_front, in_back, in_map, in_joined, all_at, all_from_in, all_joins, Reached, covered, bags_all}

-- what is often in one of two lists, and whatever passes for it in the other
module _ {A : Type 0} (test : A → A → Bool) where
  often_in : (x y : A) (ys : List A) → test x y ≡ true → In y ys → 0 < often test x ys
  often_in x y [] t h = absurd h
  often_in x y (z ∷ ys) t (inl e) = let one : ◌≡◌ {A = ℕ} (cond (test x z) 1 0) 1 = ap (λ b. cond {A = ℕ} b 1 0) (ap (test x) e ∙ t) in omega arith
  often_in x y (z ∷ ys) t (inr h) = let later = often_in x y ys t h in omega arith

  in_often : (x : A) (ys : List A) → 0 < often test x ys → (y : A) × In y ys × (test x y ≡ true)
  in_often x [] h = absurd (omega arith)
  in_often x (z ∷ ys) h = go (test x z) refl h (in_often x ys)
    where
      go : (b : Bool) → test x z ≡ b → 0 < cond b 1 0 + often test x ys → (0 < often test x ys → (y : A) × In y ys × (test x y ≡ true)) → (y : A) × In y (z ∷ ys) × (test x y ≡ true)
      go true q h' later = (z, inl refl, q)
      go false q h' later = let (y, k, t) = later (omega arith) in (y, inr k, t)

  passes_each : (p : A → Bool) (xs : List A) → all_pass p xs ≡ true → AllByRecursion (λ x. p x ≡ true) xs
  passes_each p [] h = tt
  passes_each p (x ∷ xs) h = let parts = and_parts (p x) (all_pass p xs) h in (parts.0, passes_each p xs parts.1)

  each_passes : (p : A → Bool) (xs : List A) → ((x : A) → p x ≡ true) → all_pass p xs ≡ true
  each_passes p [] f = refl
  each_passes p (x ∷ xs) f = and_from (p x) (all_pass p xs) (f x) (each_passes p xs f)

  pub equally_itself : (xs : List A) → equally_often test xs xs ≡ true
  equally_itself xs = each_passes (λ a. eqb (often test a xs) (often test a xs)) (xs ++ xs) (λ a. eq-eqb _ _ refl)

  module _ (itself : (x : A) → test x x ≡ true) (xs ys : List A) (h : equally_often test xs ys ≡ true) where
    as_often : (x : A) → In x (xs ++ ys) → often test x xs ≡ often test x ys
    as_often x k = eqb-true _ _ (all_at (λ a. eqb (often test a xs) (often test a ys) ≡ true) x (xs ++ ys) (passes_each _ (xs ++ ys) h) k)

    pub there : (x : A) → In x xs → (y : A) × In y ys × (test x y ≡ true)
    there x k = in_often x ys (omega (arith, often_in x x xs (itself x) k, as_often x (in_front x xs ys k)))

    pub back : (y : A) → In y ys → (x : A) × In x xs × (test y x ≡ true)
    back y k = in_often y xs (omega (arith, often_in y y ys (itself y) k, as_often y (in_back y xs ys k)))

access_itself : (a : Access) → same_access a a ≡ true
access_itself a = and_from _ _ (eq-eqb a.slot a.slot refl) (same_self a.vars)

same_access_is : (a b : Access) → same_access a b ≡ true → a ≡ b
same_access_is a b h =
    let parts = and_parts (eqb a.slot b.slot) (same a.vars b.vars) h in
    ap₂ {C = Access} (λ s vs. record { slot = s; vars = vs }) (eqb-true a.slot b.slot parts.0) (same_is a.vars b.vars parts.1)

-- bags that are the same have the same accesses
same_bag_in : (b c : Bag) → same_bag b c ≡ true → (a : Access) → In a b → In a c
same_bag_in b c h a k =
    let (d, j, t) = there same_access access_itself b c h a k in
    subst (λ x. In x c) (sym (same_access_is a d t)) j

bag_itself : (b : Bag) → same_bag b b ≡ true
bag_itself b = equally_itself same_access b

terms_all : (P : Access → Type 0) (p : ℕ) (t : Tree) → AllByRecursion (λ u. AllByRecursion P (accesses u.tree)) (terms_from p t) → AllByRecursion P (accesses t)
terms_all P p (access x vs) h = h.0
terms_all P p (group t) h = h.0
terms_all P p (times a b) h = h.0
terms_all P p (plus a b) h =
    all_append P (accesses a) (accesses b) (terms_all P p a (all_front (λ u. AllByRecursion P (accesses u.tree)) (terms_from p a) _ h))
    (all_back (λ u. AllByRecursion P (accesses u.tree)) (terms_from p a) _ h).0

-- every access of a line stands in one of its bags, and what holds of every access holds in all its bags
line_covered : (l : Syntax) → AllByRecursion (λ a. Reached a (multiplied_out (line_of l))) (accesses l.body)
line_covered l = terms_all (λ a. Reached a (multiplied_out (line_of l))) (body_place l) l.body (all_from_in _ (terms_from (body_place l) l.body) of_term)
  where
    of_term : (u : Placed) → In u (terms_from (body_place l) l.body) → AllByRecursion (λ a. Reached a (multiplied_out (line_of l))) (accesses u.tree)
    of_term u k =
        subst (λ (acs : List Access). AllByRecursion (λ a. Reached a (multiplied_out (line_of l))) acs) (standing_tree (accesses u.tree) u.tree 0 (from_start (accesses u.tree))).0
        (
        all_as (λ a. Reached a (bags (accesses u.tree) (expression u.tree 0))) (λ a. Reached a (multiplied_out (line_of l)))
        (λ a r. let (b, h, j) = r in (b, in_joined (λ (t : Term). bags t.accesses t.body) (term_of u) (line_of l).terms b (in_map term_of u (terms_from (body_place l) l.body) k) h, j))
        (standing (accesses u.tree) (expression u.tree 0)) (covered (accesses u.tree) (expression u.tree 0))
        )

pub line_bags : (P : Access → Type 0) (l : Syntax) → AllByRecursion P (accesses l.body) → AllByRecursion (AllByRecursion P) (multiplied_out (line_of l))
line_bags P l h =
    all_joins (AllByRecursion P) (λ (t : Term). bags t.accesses t.body) (line_of l).terms
    (
    All-map (λ (t : Term). AllByRecursion (AllByRecursion P) (bags t.accesses t.body)) term_of (terms_from (body_place l) l.body)
    (all_as (λ u. AllByRecursion P (accesses u.tree)) (λ u. AllByRecursion (AllByRecursion P) (bags (accesses u.tree) (expression u.tree 0))) of_term (terms_from (body_place l) l.body) (all_terms P (body_place l) l.body h))
    )
  where
    of_term : (u : Placed) → AllByRecursion P (accesses u.tree) → AllByRecursion (AllByRecursion P) (bags (accesses u.tree) (expression u.tree 0))
    of_term u k =
        bags_all (accesses u.tree) P (expression u.tree 0)
        (subst (λ (acs : List Access). AllByRecursion P acs) (sym (standing_tree (accesses u.tree) u.tree 0 (from_start (accesses u.tree))).0) k)

-- an access of a line stands in another where every bag of the one has its like in the other
carried : (l m : Syntax) → ((b : Bag) → In b (multiplied_out (line_of l)) → (c : Bag) × In c (multiplied_out (line_of m)) × (same_bag b c ≡ true)) → AllByRecursion (λ a. In a (accesses m.body)) (accesses l.body)
carried l m like =
    all_as (λ a. Reached a (multiplied_out (line_of l))) (λ a. In a (accesses m.body))
    (
    λ a r.
    let (b, h, k) = r in
    let (c, j, t) = like b h in
    all_at (λ d. In d (accesses m.body)) a c
    (all_at (AllByRecursion (λ d. In d (accesses m.body))) c (multiplied_out (line_of m)) (line_bags (λ d. In d (accesses m.body)) m (all_from_in (λ d. In d (accesses m.body)) (accesses m.body) (λ d i. i))) j)
    (same_bag_in b c t a k)
    )
    (accesses l.body) (line_covered l)

module _ (l m : Syntax) (h : alike (line_of l) (line_of m) ≡ true) where
  pub same_accesses : AllByRecursion (λ a. In a (accesses m.body)) (accesses l.body)
  same_accesses = carried l m (there same_bag bag_itself (multiplied_out (line_of l)) (multiplied_out (line_of m)) h)

  pub same_accesses_back : AllByRecursion (λ a. In a (accesses l.body)) (accesses m.body)
  same_accesses_back = carried m l (back same_bag bag_itself (multiplied_out (line_of l)) (multiplied_out (line_of m)) h)

-- at an access two lines, each over its tensors, have the same extents and the same dense values
pub record Agrees {V : Type 0} (z : V) (ts us : Tensors V) (l m : Syntax) (a : Access) : Type 0 where
  pub extents : (v : ℕ) → has a.vars v ≡ true → extent_of (extents_seen ts) l v ≡ extent_of (extents_seen us) m v
  pub values : (cs : List ℕ) → dense_values z ts a.slot cs ≡ dense_values z us a.slot cs

-- and so at all their accesses, in all their bags, at the variables of their terms and on the left
pub record Agreeing {V : Type 0} (z : V) (ts us : Tensors V) (l m : Syntax) : Type 0 where
  pub accesses_first : AllByRecursion (Agrees z ts us l m) (accesses l.body)
  pub accesses_second : AllByRecursion (Agrees z ts us l m) (accesses m.body)
  pub bags_first : AllByRecursion (AllByRecursion (Agrees z ts us l m)) (multiplied_out (line_of l))
  pub bags_second : AllByRecursion (AllByRecursion (Agrees z ts us l m)) (multiplied_out (line_of m))
  pub terms_first : (v : ℕ) → AllByRecursion (λ t. occurs t.accesses v t.body ≡ true → extent_of (extents_seen ts) l v ≡ extent_of (extents_seen us) m v) (line_of l).terms
  pub terms_second : (v : ℕ) → AllByRecursion (λ t. occurs t.accesses v t.body ≡ true → extent_of (extents_seen ts) l v ≡ extent_of (extents_seen us) m v) (line_of m).terms
  pub left : (v : ℕ) → has l.left v ≡ true → extent_of (extents_seen ts) l v ≡ extent_of (extents_seen us) m v

-- what holds of every access where a variable stands in it, holds of every term where the variable occurs
terms_where : (Q : Type 0) (v p : ℕ) (t : Tree) → AllByRecursion (λ a. has a.vars v ≡ true → Q) (accesses t) → AllByRecursion (λ u. occurs (accesses u.tree) v (expression u.tree 0) ≡ true → Q) (terms_from p t)
terms_where Q v p t h =
    all_as (λ u. AllByRecursion (λ a. has a.vars v ≡ true → Q) (accesses u.tree)) (λ u. occurs (accesses u.tree) v (expression u.tree 0) ≡ true → Q)
    (λ u k o. has_some (accesses u.tree) v Q k (sym (occurs_tree (accesses u.tree) v u.tree 0 (from_start (accesses u.tree))) ∙ o))
    (terms_from p t) (all_terms (λ a. has a.vars v ≡ true → Q) p t h)

-- there is a first term
first_term : (P : Placed → Type 0) (p : ℕ) (t : Tree) → AllByRecursion P (terms_from p t) → (u : Placed) × P u
first_term P p (access x vs) h = (_, h.0)
first_term P p (group t) h = (_, h.0)
first_term P p (times a b) h = (_, h.0)
first_term P p (plus a b) h = first_term P p a (all_front P (terms_from p a) _ h)

module _ {V : Type 0} (z : V) (ts us : Tensors V) (l m : Syntax) where
  abbrev SameExtent : ℕ → Type 0
  SameExtent v = extent_of (extents_seen ts) l v ≡ extent_of (extents_seen us) m v

  -- the access's extents are those of the line, on either side
  access_agrees :
      (a : Access) → Sound (extents_seen ts) l a → Sound (extents_seen us) m a
      → (extents_seen ts a.slot ≡ extents_seen us a.slot) × ((cs : List ℕ) → dense_values z ts a.slot cs ≡ dense_values z us a.slot cs)
      → Agrees z ts us l m a
  access_agrees a s r e =
      record {
        extents = λ v h. sym (s.sizes v h) ∙ ap (λ o. get_or (extents_of o) (place a.vars v) 0) e.0 ∙ r.sizes v h;
        values = e.1;
      }

  terms_agree : (n : Syntax) → AllByRecursion (Agrees z ts us l m) (accesses n.body) → (v : ℕ) → AllByRecursion (λ t. occurs t.accesses v t.body ≡ true → SameExtent v) (line_of n).terms
  terms_agree n h v =
      All-map (λ (t : Term). occurs t.accesses v t.body ≡ true → SameExtent v) term_of (terms_from (body_place n) n.body)
      (terms_where (SameExtent v) v (body_place n) n.body (all_as (Agrees z ts us l m) (λ a. has a.vars v ≡ true → SameExtent v) (λ a g. g.extents v) (accesses n.body) h))

  left_agrees : AllByRecursion (Agrees z ts us l m) (accesses l.body) → AllByRecursion (Whole l.left) (terms_from (body_place l) l.body) → (v : ℕ) → has l.left v ≡ true → SameExtent v
  left_agrees h w v k =
      (first_term (λ u. SameExtent v) (body_place l) l.body
      (
      all_both (λ u. AllByRecursion (Agrees z ts us l m) (accesses u.tree)) (Whole l.left) (λ u. SameExtent v)
      (
      λ u g c. has_some (accesses u.tree) v (SameExtent v)
      (all_as (Agrees z ts us l m) (λ a. has a.vars v ≡ true → SameExtent v) (λ a g'. g'.extents v) (accesses u.tree) g)
      (all_in_has l.left (tree_vars u.tree) v c.lefts k)
      )
      (terms_from (body_place l) l.body) (all_terms (Agrees z ts us l m) (body_place l) l.body h) w
      )).1

  pub agree_extents :
      (s r : List ℕ) → Accepts (extents_seen ts) s l → Accepts (extents_seen us) r m → alike (line_of l) (line_of m) ≡ true → AgreeOn z ts us (accesses l.body)
      → Agreeing z ts us l m
  agree_extents s r first second like agree =
      let rules = clean (extents_seen ts) l first.1 in
      let others = sound (extents_seen us) m (clean (extents_seen us) m second.1) in
      let here : AllByRecursion (Agrees z ts us l m) (accesses l.body) =
      all_both (Sound (extents_seen ts) l) _ (Agrees z ts us l m) (λ a t g. g t) (accesses l.body) (sound (extents_seen ts) l rules)
      (
      all_both (λ a. In a (accesses m.body)) _ (λ a. Sound (extents_seen ts) l a → Agrees z ts us l m a)
      (λ a i e t. access_agrees a t (all_at (Sound (extents_seen us) m) a (accesses m.body) others i) e) (accesses l.body) (same_accesses l m like) agree
      ) in
      let over : AllByRecursion (Agrees z ts us l m) (accesses m.body) =
      all_as (λ a. In a (accesses l.body)) (Agrees z ts us l m) (λ a i. all_at (Agrees z ts us l m) a (accesses l.body) here i) (accesses m.body) (same_accesses_back l m like) in
      record {
        accesses_first = here;
        accesses_second = over;
        bags_first = line_bags (Agrees z ts us l m) l here;
        bags_second = line_bags (Agrees z ts us l m) m over;
        terms_first = terms_agree l here;
        terms_second = terms_agree m over;
        left = left_agrees here (whole (extents_seen ts) l rules first.0.formed.body);
      }
