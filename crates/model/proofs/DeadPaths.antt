-- Dead is zero: where a coordinate is not among the merged ones, the expression's value is zero. Assumes nothing.
use Rattle.std.proofs.Common.{◌≡◌, ℕ, Bool, true, false, cond, ◌&&◌, ◌||◌, ◌⊎◌, List, [], ◌∷◌, map, sym, refl, ap, ◌∙◌, ap₂, inl, inr, true≢false}
use mathlib.Core.Bool.{false≢true}
use Rattle.std.specs.List.{AllByRecursion}
use Rattle.model.specs.Semirings.{Algebra, Laws}
use Rattle.model.specs.Tensors.{has}
use Rattle.model.specs.Terms.{Access, Expr, operand, product, sum, Parts, last, more, nth_access, occurs, occurs_in}
use Rattle.model.specs.Blocks.{in_both, in_either}
use Rattle.model.proofs.Fit.{EachOccurs, Even, EvenIn}
use Rattle.model.proofs.MergedLists.{has_both, has_either, and_assoc, or_assoc}
use Rattle.model.proofs.MergeMeaning.{meant, meant_parts, folds, fold_of, Filled}

-- what is meant at a path is the path's leaves merged
module _ {P expr_value : Type 0} (by plus : expr_value → expr_value → expr_value) (o : expr_value) (counts : Expr → Bool) (leaf : ℕ → P → expr_value) (p : P) where
  abbrev at_p : (expr_value → expr_value → expr_value) → (P → expr_value) → (P → expr_value) → P → expr_value
  at_p f g h q = f (g q) (h q)

  folds_point : (f : expr_value → expr_value → expr_value) (g : P → expr_value) (gs : List (P → expr_value)) → folds (at_p f) g gs p ≡ folds f (g p) (map (λ h. h p) gs)
  folds_point f g [] = refl
  folds_point f g (h ∷ gs) = folds_point f (at_p f g h) gs

  fold_point : (f : expr_value → expr_value → expr_value) (gs : List (P → expr_value)) → fold_of (λ q. o) (at_p f) gs p ≡ fold_of o f (map (λ h. h p) gs)
  fold_point f [] = refl
  fold_point f (g ∷ gs) = folds_point f g gs

  map_cond : (b : Bool) (gs hs : List (P → expr_value)) → map (λ h. h p) (cond b gs hs) ≡ cond b (map (λ h. h p) gs) (map (λ h. h p) hs)
  map_cond true gs hs = refl
  map_cond false gs hs = refl

  mutual
    pub point : (e : Expr) → meant (at_p by) (at_p plus) (λ q. o) counts leaf e p ≡ meant by plus o counts (λ i. leaf i p) e
    point (operand i) = refl
    point (product ps) = fold_point by (meant_parts (at_p by) (at_p plus) (λ q. o) counts leaf ps) ∙ ap (fold_of o by) (points ps)
    point (sum ps) = fold_point plus (meant_parts (at_p by) (at_p plus) (λ q. o) counts leaf ps) ∙ ap (fold_of o plus) (points ps)

    pub points : (ps : Parts) → map (λ h. h p) (meant_parts (at_p by) (at_p plus) (λ q. o) counts leaf ps) ≡ meant_parts by plus o counts (λ i. leaf i p) ps
    points (last e) = map_cond (counts e) _ _ ∙ ap (λ x. cond (counts e) (x ∷ []) []) (point e)
    points (more e ps) = map_cond (counts e) _ _ ∙ ap₂ (λ x xs. cond (counts e) (x ∷ xs) xs) (point e) (points ps)

abbrev all_have : ℕ → List (List ℕ) → Bool
all_have c [] = true
all_have c (l ∷ ls) = has l c && all_have c ls

abbrev any_has : ℕ → List (List ℕ) → Bool
any_has c [] = false
any_has c (l ∷ ls) = has l c || any_has c ls

folds_both : (c : ℕ) (l : List ℕ) (ls : List (List ℕ)) → has (folds in_both l ls) c ≡ (has l c && all_have c ls)
folds_both c l [] = and_true (has l c)
  where
    and_true : (b : Bool) → b ≡ (b && true)
    and_true true = refl
    and_true false = refl
folds_both c l (m ∷ ls) = folds_both c (in_both l m) ls ∙ ap (λ b. b && all_have c ls) (has_both l m c) ∙ and_assoc (has l c) (has m c) (all_have c ls)

folds_either : (c : ℕ) (l : List ℕ) (ls : List (List ℕ)) → has (folds in_either l ls) c ≡ (has l c || any_has c ls)
folds_either c l [] = or_false (has l c)
  where
    or_false : (b : Bool) → b ≡ (b || false)
    or_false true = refl
    or_false false = refl
folds_either c l (m ∷ ls) = folds_either c (in_either l m) ls ∙ ap (λ b. b || any_has c ls) (has_either l m c) ∙ or_assoc (has l c) (has m c) (any_has c ls)

fold_both : (c : ℕ) (ls : List (List ℕ)) → Filled ls → has (fold_of [] in_both ls) c ≡ all_have c ls
fold_both c [] full = absurd full
fold_both c (l ∷ ls) full = folds_both c l ls

fold_either : (c : ℕ) (ls : List (List ℕ)) → has (fold_of [] in_either ls) c ≡ any_has c ls
fold_either c [] = refl
fold_either c (l ∷ ls) = folds_either c l ls

module _ {V : Type 0} (K : Algebra V) (laws : Laws K) where
  abbrev SomeNought : List V → Type 0
  SomeNought [] = ⊥
  SomeNought (x ∷ xs) = (x ≡ K.zero) ⊎ SomeNought xs

  nought_by : (x : V) → K.product x K.zero ≡ K.zero
  nought_by x = laws.product_comm x K.zero ∙ laws.product_zero x

  nought_folds : (x : V) (xs : List V) → x ≡ K.zero → folds K.product x xs ≡ K.zero
  nought_folds x [] e = e
  nought_folds x (y ∷ xs) e = nought_folds (K.product x y) xs (ap (λ z. K.product z y) e ∙ laws.product_zero y)

  some_folds : (x : V) (xs : List V) → SomeNought xs → folds K.product x xs ≡ K.zero
  some_folds x [] h = absurd h
  some_folds x (y ∷ xs) (inl e) = nought_folds (K.product x y) xs (ap (K.product x) e ∙ nought_by x)
  some_folds x (y ∷ xs) (inr h) = some_folds (K.product x y) xs h

  product_nought : (xs : List V) → SomeNought xs → fold_of K.zero K.product xs ≡ K.zero
  product_nought [] h = absurd h
  product_nought (x ∷ xs) (inl e) = nought_folds x xs e
  product_nought (x ∷ xs) (inr h) = some_folds x xs h

  sum_folds : (x : V) (xs : List V) → x ≡ K.zero → AllByRecursion (λ y. y ≡ K.zero) xs → folds K.sum x xs ≡ K.zero
  sum_folds x [] e h = e
  sum_folds x (y ∷ xs) e h = sum_folds (K.sum x y) xs (ap₂ K.sum e h.0 ∙ laws.sum_zero K.zero) h.1

  sum_nought : (xs : List V) → AllByRecursion (λ y. y ≡ K.zero) xs → fold_of K.zero K.sum xs ≡ K.zero
  sum_nought [] h = refl
  sum_nought (x ∷ xs) h = sum_folds x xs h.0 h.1

  module _ (acs : List Access) (v c : ℕ) (F : ℕ → List ℕ) (x : ℕ → V) (leaf_dead : (i : ℕ) → has (nth_access acs i).vars v ≡ true → has (F i) c ≡ false → x i ≡ K.zero) where
    abbrev L : Expr → List ℕ
    L = meant in_both in_either [] (occurs acs v) F

    abbrev Ls : Parts → List (List ℕ)
    Ls = meant_parts in_both in_either [] (occurs acs v) F

    abbrev expr_value : Expr → V
    expr_value = meant K.product K.sum K.zero (λ e. true) x

    abbrev part_values : Parts → List V
    part_values = meant_parts K.product K.sum K.zero (λ e. true) x

    filled : (ps : Parts) → occurs_in acs v ps ≡ true → Filled (Ls ps)
    filled (last e) h = go (occurs acs v e) h
      where
        go : (b : Bool) → b ≡ true → Filled (cond b (L e ∷ []) [])
        go true h1 = tt
        go false h1 = absurd (false≢true h1)
    filled (more e ps) h = go (occurs acs v e) h (filled ps)
      where
        go : (b : Bool) → (b || occurs_in acs v ps) ≡ true → (occurs_in acs v ps ≡ true → Filled (Ls ps)) → Filled (cond b (L e ∷ Ls ps) (Ls ps))
        go true h1 f = tt
        go false h1 f = f h1

    some_last : (e : Expr) (b d : Bool) → has (L e) c ≡ d → all_have c (cond b (L e ∷ []) []) ≡ false → (b ≡ true → has (L e) c ≡ false → expr_value e ≡ K.zero) → SomeNought (expr_value e ∷ [])
    some_last e true true q h one = absurd (true≢false (sym (ap (λ d. d && true) q) ∙ h))
    some_last e true false q h one = inl (one refl q)
    some_last e false d q h one = absurd (true≢false h)

    some_more : (e : Expr) (ps : Parts) (b d : Bool) → has (L e) c ≡ d → all_have c (cond b (L e ∷ Ls ps) (Ls ps)) ≡ false → (b ≡ true → has (L e) c ≡ false → expr_value e ≡ K.zero) → (all_have c (Ls ps) ≡ false → SomeNought (part_values ps)) → SomeNought (expr_value e ∷ part_values ps)
    some_more e ps true true q h one rest = inr (rest (sym (ap (λ d. d && all_have c (Ls ps)) q) ∙ h))
    some_more e ps true false q h one rest = inl (one refl q)
    some_more e ps false d q h one rest = inr (rest h)

    or_none : (a b : Bool) → (a || b) ≡ false → (a ≡ false) × (b ≡ false)
    or_none true b h = absurd (true≢false h)
    or_none false b h = (refl, h)

    mutual
      pub dead : (e : Expr) → Even acs v e → occurs acs v e ≡ true → has (L e) c ≡ false → expr_value e ≡ K.zero
      dead (operand i) ev o h = leaf_dead i o h
      dead (product ps) ev o h = product_nought (part_values ps) (dead_some ps ev (sym (fold_both c (Ls ps) (filled ps o)) ∙ h))
      dead (sum ps) ev o h = sum_nought (part_values ps) (dead_every ps ev.0 (ev.1 o) (sym (fold_either c (Ls ps)) ∙ h))

      dead_some : (ps : Parts) → EvenIn acs v ps → all_have c (Ls ps) ≡ false → SomeNought (part_values ps)
      dead_some (last e) ev h = some_last e (occurs acs v e) (has (L e) c) refl h (λ o g. dead e ev o g)
      dead_some (more e ps) ev h = some_more e ps (occurs acs v e) (has (L e) c) refl h (λ o g. dead e ev.0 o g) (λ g. dead_some ps ev.1 g)

      dead_every : (ps : Parts) → EvenIn acs v ps → EachOccurs acs v ps → any_has c (Ls ps) ≡ false → AllByRecursion (λ y. y ≡ K.zero) (part_values ps)
      dead_every (last e) ev o h = (dead e ev o (or_none (has (L e) c) false (sym (ap (λ b. any_has c (cond b (L e ∷ []) [])) o) ∙ h)).0, tt)
      dead_every (more e ps) ev o h =
          let both = or_none (has (L e) c) (any_has c (Ls ps)) (sym (ap (λ b. any_has c (cond b (L e ∷ Ls ps) (Ls ps))) o.0) ∙ h) in
          (dead e ev.0 o.0 both.0, dead_every ps ev.1 o.1 both.1)
