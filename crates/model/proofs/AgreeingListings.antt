-- What a line lists depends only on the extents of its variables and the dense values of the slots that it names. Assumes nothing.
use Rattle.std.proofs.Common.{◌≡◌, ℕ, Bool, true, false, not, ◌||◌, eqb, List, [], ◌∷◌, ◌++◌, map, length, sym, refl, ap, ◌∙◌, subst, ap₂}
use mathlib.Core.Path.{fun_ext}
use mathlib.Core.Bool.{false≢true}
use Rattle.std.specs.List.{flat_map, AllByRecursion}
use Rattle.std.proofs.lemmas.Bool.{eq-eqb}
use Rattle.std.proofs.ByRecursion.{All-append, All-get_or, All-weaker}
use Rattle.model.specs.Semirings.{Algebra, total}
use Rattle.model.specs.Tensors.{Storage, has}
use Rattle.model.specs.Terms.{Access, Expr, operand, product, sum, Parts, last, more, Term, Line, no_access}
use Rattle.model.specs.Blocks.{Key}
use Rattle.model.specs.Running.{results}
use Rattle.model.specs.Sums.{below, Bag, bags, bags_product, bags_sum, alike, multiplied_out, Assignment, bind, bind_all, reduced, sum_over, product_of, bag_sum, keys, listing}
use Rattle.model.proofs.Fit.{Placed, PlacedIn, FitTerm, FitLine}
use Rattle.model.proofs.Variables.{has_append, and_parts}
use Rattle.model.proofs.MergeMeaning.{Filled}
use Rattle.model.proofs.Distribution.{in_bag, bags_occur, all_products}
use Rattle.model.proofs.TermMeaning.{reduced_has, map_all}
use Rattle.model.proofs.Counting.{Rearranged, alike_rearranged}

-- what holds of a term's accesses holds of the accesses in its bags
module _ (P : Access → Type 0) (acs : List Access) (all : AllByRecursion P acs) where
  mutual
    pub bags_all : (e : Expr) → Placed (length acs) e → AllByRecursion (AllByRecursion P) (bags acs e)
    bags_all (operand i) p = ((All-get_or P acs i no_access p all, tt), tt)
    bags_all (product ps) p = products_all ps p
    bags_all (sum ps) p = sums_all ps p

    products_all : (ps : Parts) → PlacedIn (length acs) ps → AllByRecursion (AllByRecursion P) (bags_product acs ps)
    products_all (last e) p = bags_all e p
    products_all (more e ps) p = all_products (AllByRecursion P) (AllByRecursion P) (AllByRecursion P) (λ b c h k. All-append P b c h k) (bags acs e) (bags_product acs ps) (bags_all e p.0) (products_all ps p.1)

    sums_all : (ps : Parts) → PlacedIn (length acs) ps → AllByRecursion (AllByRecursion P) (bags_sum acs ps)
    sums_all (last e) p = bags_all e p
    sums_all (more e ps) p = All-append (AllByRecursion P) (bags acs e) (bags_sum acs ps) (bags_all e p.0) (sums_all ps p.1)

all_parts : {A : Type 0} (P : A → Type 0) (xs ys : List A) → AllByRecursion P (xs ++ ys) → AllByRecursion P xs × AllByRecursion P ys
all_parts P [] ys h = (tt, h)
all_parts P (x ∷ xs) ys h = let r = all_parts P xs ys h.1 in ((h.0, r.0), r.1)

pub line_bags_all :
    (P : Access → Type 0) (ts : List Term) → AllByRecursion (λ t. Placed (length t.accesses) t.body) ts → AllByRecursion P (flat_map (λ t. t.accesses) ts)
    → AllByRecursion (AllByRecursion P) (flat_map (λ t. bags t.accesses t.body) ts)
line_bags_all P [] p h = tt
line_bags_all P (t ∷ ts) p h =
    let r = all_parts P t.accesses (flat_map (λ u. u.accesses) ts) h in
    All-append (AllByRecursion P) (bags t.accesses t.body) (flat_map (λ u. bags u.accesses u.body) ts) (bags_all P t.accesses r.0 t.body p.0) (line_bags_all P ts p.1 r.1)

all_middle : {A : Type 0} (P : A → Type 0) (us : List A) (y : A) (vs : List A) → AllByRecursion P (us ++ y ∷ vs) → P y × AllByRecursion P (us ++ vs)
all_middle P [] y vs h = (h.0, h.1)
all_middle P (u ∷ us) y vs h = let r = all_middle P us y vs h.1 in (r.0, (h.0, r.1))

-- lines that multiply out alike have the same accesses in their bags
all_rearranged : {A : Type 0} (P : A → Type 0) (R : A → A → Type 0) → ((x y : A) → R x y → P y → P x) → (xs ys : List A) → Rearranged R xs ys → AllByRecursion P ys → AllByRecursion P xs
all_rearranged P R f [] ys r h = tt
all_rearranged P R f (x ∷ xs) ys r h =
    let m = all_middle P r.0 r.1 r.2 (subst (AllByRecursion P) r.3 h) in
    (f x r.1 r.4 m.0, all_rearranged P R f xs (r.0 ++ r.2) r.5 m.1)

pub alike_bags_all : (P : Access → Type 0) (l m : Line) → alike l m ≡ true → AllByRecursion (AllByRecursion P) (multiplied_out m) → AllByRecursion (AllByRecursion P) (multiplied_out l)
alike_bags_all P l m same h =
    all_rearranged (AllByRecursion P) (Rearranged (λ (a b : Access). a ≡ b))
    (λ b c r k. all_rearranged P (λ (x y : Access). x ≡ y) (λ x y e p. subst P (sym e) p) b c r k)
    (multiplied_out l) (multiplied_out m) (alike_rearranged (multiplied_out l) (multiplied_out m) same) h

-- an expression has a bag
module _ (acs : List Access) where
  filled_some : (bs cs : List Bag) → Filled bs → Filled cs → Filled (flat_map (λ b. map (λ c. b ++ c) cs) bs)
  filled_some [] cs h k = absurd h
  filled_some (b ∷ bs) [] h k = absurd k
  filled_some (b ∷ bs) (c ∷ cs) h k = tt

  filled_first : (bs cs : List Bag) → Filled bs → Filled (bs ++ cs)
  filled_first [] cs h = absurd h
  filled_first (b ∷ bs) cs h = tt

  mutual
    bags_some : (e : Expr) → Filled (bags acs e)
    bags_some (operand i) = tt
    bags_some (product ps) = products_some ps
    bags_some (sum ps) = sums_some ps

    sums_some : (ps : Parts) → Filled (bags_sum acs ps)
    sums_some (last e) = bags_some e
    sums_some (more e ps) = filled_first (bags acs e) (bags_sum acs ps) (bags_some e)

    products_some : (ps : Parts) → Filled (bags_product acs ps)
    products_some (last e) = bags_some e
    products_some (more e ps) = filled_some (bags acs e) (bags_product acs ps) (bags_some e) (products_some ps)

-- the variables of a bag are those of its accesses
in_bag_all : (Q : ℕ → Type 0) (b : Bag) → AllByRecursion (λ a. (v : ℕ) → has a.vars v ≡ true → Q v) b → (v : ℕ) → in_bag b v ≡ true → Q v
in_bag_all Q [] h v e = absurd (false≢true e)
in_bag_all Q (a ∷ b) h v e = go (has a.vars v) refl (sym (has_append a.vars (flat_map (λ x. x.vars) b) v) ∙ e) (in_bag_all Q b h.1 v)
  where
    go : (c : Bool) → has a.vars v ≡ c → (c || in_bag b v) ≡ true → (in_bag b v ≡ true → Q v) → Q v
    go true q e1 ih = h.0 v q
    go false q e1 ih = ih e1

or_true : (b : Bool) → (b || true) ≡ true
or_true true = refl
or_true false = refl

module _ {V : Type 0} (K : Algebra V) (extent other_extent : ℕ → ℕ) (dense other_dense : ℕ → List ℕ → V) where
  -- the extents of an access's variables are equal, and the dense values of its slot
  abbrev pub AgreeAt : Access → Type 0
  AgreeAt a = ((v : ℕ) → has a.vars v ≡ true → extent v ≡ other_extent v) × ((cs : List ℕ) → dense a.slot cs ≡ other_dense a.slot cs)

  keys_agree : (left : List ℕ) → ((v : ℕ) → has left v ≡ true → extent v ≡ other_extent v) → keys extent left ≡ keys other_extent left
  keys_agree [] h = refl
  keys_agree (v ∷ vs) h =
      ap₂ (λ e (ks : List Key). flat_map (λ c. map (λ k. c ∷ k) ks) (below 0 e))
      (h v (ap (λ b. b || has vs v) (eq-eqb v v refl))) (keys_agree vs (λ w e. h w (ap (λ b. eqb v w || b) e ∙ or_true (eqb v w))))

  over_agree : (vs : List ℕ) → ((v : ℕ) → has vs v ≡ true → extent v ≡ other_extent v) → (s : Assignment) (f : Assignment → V) → sum_over K extent dense vs s f ≡ sum_over K other_extent other_dense vs s f
  over_agree [] h s f = refl
  over_agree (v ∷ vs) h s f =
      ap₂ (λ e (g : ℕ → V). total K (map g (below 0 e)))
      (h v (ap (λ b. b || has vs v) (eq-eqb v v refl))) (fun_ext λ c. over_agree vs (λ w e. h w (ap (λ b. eqb v w || b) e ∙ or_true (eqb v w))) (bind v c s) f)

  product_agree : (b : Bag) → AllByRecursion AgreeAt b → (s : Assignment) → product_of K extent dense b s ≡ product_of K other_extent other_dense b s
  product_agree [] h s = refl
  product_agree (a ∷ []) h s = h.0.1 (map s a.vars)
  product_agree (a ∷ c ∷ b) h s = ap₂ K.product (h.0.1 (map s a.vars)) (product_agree (c ∷ b) h.1 s)

  extents_in : (b : Bag) → AllByRecursion AgreeAt b → (v : ℕ) → in_bag b v ≡ true → extent v ≡ other_extent v
  extents_in b h v e = in_bag_all (λ w. extent w ≡ other_extent w) b (turn b h) v e
    where
      turn : (c : Bag) → AllByRecursion AgreeAt c → AllByRecursion (λ a. (w : ℕ) → has a.vars w ≡ true → extent w ≡ other_extent w) c
      turn [] k = tt
      turn (a ∷ c) k = (k.0.0, turn c k.1)

  bag_agree : (left : List ℕ) (k : Key) (b : Bag) → AllByRecursion AgreeAt b → bag_sum K extent dense left k b ≡ bag_sum K other_extent other_dense left k b
  bag_agree left k b h =
      over_agree (reduced left b) (λ v e. extents_in b h v (and_parts (in_bag b v) (not (has left v)) (sym (reduced_has left b v) ∙ e)).0) (bind_all left k) (product_of K extent dense b)
      ∙ ap (sum_over K other_extent other_dense (reduced left b) (bind_all left k)) (fun_ext λ s. product_agree b h s)

  pub listing_agrees :
      (l : Line) → ((v : ℕ) → has l.left v ≡ true → extent v ≡ other_extent v) → AllByRecursion (AllByRecursion AgreeAt) (multiplied_out l)
      → listing K extent dense l ≡ listing K other_extent other_dense l
  listing_agrees l lefts h =
      ap₂ (λ (ks : List Key) (g : Key → V). results K (map (λ k. (k, g k)) ks)) (keys_agree l.left lefts)
      (fun_ext λ k. ap (total K) (map_all (AllByRecursion AgreeAt) (bag_sum K extent dense l.left k) (bag_sum K other_extent other_dense l.left k) (bag_agree l.left k) (multiplied_out l) h))

  -- the left variables of a line that fits are in the bags of its first term
  first_bag : (v : ℕ) (bs : List Bag) → Filled bs → AllByRecursion (AllByRecursion AgreeAt) bs → AllByRecursion (λ b. in_bag b v ≡ true) bs → extent v ≡ other_extent v
  first_bag v [] full h k = absurd full
  first_bag v (b ∷ bs) full h k = extents_in b h.0 v k.0

  lefts_agree :
      (T : ℕ → Storage V) (left order : List ℕ) (ts : List Term) → Filled ts → AllByRecursion (FitTerm K T extent dense left order) ts
      → AllByRecursion (AllByRecursion AgreeAt) (flat_map (λ t. bags t.accesses t.body) ts) → (v : ℕ) → has left v ≡ true → extent v ≡ other_extent v
  lefts_agree T left order [] full fit h v e = absurd full
  lefts_agree T left order (t ∷ ts) full fit h v e =
      first_bag v (bags t.accesses t.body) (bags_some t.accesses t.body)
      (all_parts (AllByRecursion AgreeAt) (bags t.accesses t.body) (flat_map (λ u. bags u.accesses u.body) ts) h).0
      (subst (λ c. AllByRecursion (λ b. in_bag b v ≡ c) (bags t.accesses t.body)) (fit.0.lefts v e) (bags_occur t.accesses v t.body (fit.0.even v)))

  -- A line that fits and has a term: its left variables are variables of its accesses.
  pub fit_listing_agrees :
      (T : ℕ → Storage V) (l : Line) → FitLine K T extent dense l → Filled l.terms → AllByRecursion (AllByRecursion AgreeAt) (multiplied_out l)
      → listing K extent dense l ≡ listing K other_extent other_dense l
  fit_listing_agrees T l fit full h = listing_agrees l (lefts_agree T l.left l.order l.terms full fit.each h) h

  -- the same, from agreement at the line's accesses
  pub fit_accesses_agree :
      (T : ℕ → Storage V) (l : Line) → FitLine K T extent dense l → Filled l.terms → AllByRecursion AgreeAt (flat_map (λ t. t.accesses) l.terms)
      → listing K extent dense l ≡ listing K other_extent other_dense l
  fit_accesses_agree T l fit full h =
      fit_listing_agrees T l fit full
      (line_bags_all AgreeAt l.terms (All-weaker (FitTerm K T extent dense l.left l.order) _ (λ t f. f.placed) l.terms fit.each) h)
