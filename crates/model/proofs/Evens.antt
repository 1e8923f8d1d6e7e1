-- In every sum inside a term each part has the same variables. Assumes nothing.
use Rattle.std.proofs.Common.{◌≡◌, ℕ, ◌+◌, ◌≤◌, Bool, true, false, ◌||◌, List, ◌++◌, length, sym, refl, ap, ◌∙◌, subst, ap₂, arith}
use Rattle.std.specs.List.{AllByRecursion}
use Rattle.std.proofs.lemmas.Bool.{not-false}
use Rattle.model.specs.Tensors.{has}
use Rattle.model.specs.Terms.{Access, Parts, last, more, occurs}
use Rattle.model.specs.Grammar.{Tree, access, group, times, plus, text, height, Grammatical}
use Rattle.model.specs.Reading.{accesses, expression, products, terms_from}
use Rattle.model.specs.Conditions.{Check, tree_vars, last_product, additions}
use Rattle.model.proofs.Fit.{Even, EvenIn, EachOccurs}
use Rattle.model.proofs.Faults.{Pass, Passes, all_append, all_front, all_back, has_append, same_vars_has}
use Rattle.model.proofs.Readings.{vars_append, From, from_front, from_back, occurs_tree, Known}

or_self : (a b : Bool) → a ≡ b → (a || b) ≡ b
or_self true b e = e
or_self false b e = refl

-- what a sum's checks say of its left side, of the two neighbours, and of its right side
module _ (p : ℕ) (a b : Tree) (h : Passes (additions p true (plus a b))) where
  pub left_passes : Passes (additions p true a)
  left_passes = all_front Pass (additions p true a) _ h

  pub right_passes : Passes (additions (p + length (text a) + 1) true b)
  right_passes = (all_back Pass (additions p true a) _ h).1

  pub neighbours : (v : ℕ) → has (tree_vars (last_product a)) v ≡ has (tree_vars b) v
  neighbours v = same_vars_has (tree_vars (last_product a)) (tree_vars b) v (not-false _ (all_back Pass (additions p true a) _ h).0)

-- a sum has the variables of its last product
pub last_has : (v p : ℕ) (t : Tree) → Passes (additions p true t) → has (tree_vars t) v ≡ has (tree_vars (last_product t)) v
last_has v p (access l vs) h = refl
last_has v p (group t) h = refl
last_has v p (times a b) h = refl
last_has v p (plus a b) h =
    ap (λ l. has l v) (vars_append (accesses a) (accesses b)) ∙ has_append (tree_vars a) (tree_vars b) v
    ∙ or_self (has (tree_vars a) v) (has (tree_vars b) v) (last_has v p a (left_passes p a b h) ∙ neighbours p a b h v)

module _ (acs : List Access) (v : ℕ) where
  -- where the last product has the variable, each product has it
  pub each_product :
      (p : ℕ) (t : Tree) (n : ℕ) (ps : Parts) → From acs n (accesses t) → Passes (additions p true t)
      → has (tree_vars (last_product t)) v ≡ true → EachOccurs acs v ps → EachOccurs acs v (products t n ps)
  each_product p (access l vs) n ps f h k each = (occurs_tree acs v (access l vs) n f ∙ k, each)
  each_product p (group t) n ps f h k each = (occurs_tree acs v (group t) n f ∙ k, each)
  each_product p (times a b) n ps f h k each = (occurs_tree acs v (times a b) n f ∙ k, each)
  each_product p (plus a b) n ps f h k each =
      each_product p a n (more (expression b (n + length (accesses a))) ps) (from_front acs n (accesses a) (accesses b) f)
      (left_passes p a b h) (neighbours p a b h v ∙ k) (occurs_tree acs v b (n + length (accesses a)) (from_back acs n (accesses a) (accesses b) f) ∙ k, each)

  sum_each :
      (p : ℕ) (a b : Tree) (n : ℕ) → From acs n (accesses (plus a b)) → Passes (additions p true (plus a b))
      → occurs acs v (expression (plus a b) n) ≡ true → EachOccurs acs v (products a n (last (expression b (n + length (accesses a)))))
  sum_each p a b n f h k =
      let there : has (tree_vars b) v ≡ true = sym (last_has v p (plus a b) h) ∙ sym (occurs_tree acs v (plus a b) n f) ∙ k in
      each_product p a n (last (expression b (n + length (accesses a)))) (from_front acs n (accesses a) (accesses b) f)
      (left_passes p a b h) (neighbours p a b h v ∙ there) (occurs_tree acs v b (n + length (accesses a)) (from_back acs n (accesses a) (accesses b) f) ∙ there)

  pub even_tree :
      (p : ℕ) (t : Tree) (n : ℕ) → From acs n (accesses t) → Passes (additions p true t)
      → Known (Even acs v) (λ ps qs. EvenIn acs v ps → EvenIn acs v qs) t n
  even_tree p (access l vs) n f h = (tt, λ ps k. (tt, k), λ ps k. (tt, k))
  even_tree p (group t) n f h = let e = (even_tree (p + 1) t n f h).0 in (e, λ ps k. (e, k), λ ps k. (e, k))
  even_tree p (times a b) n f h =
      let x = even_tree p a n (from_front acs n (accesses a) (accesses b) f) (all_front Pass (additions p true a) _ h) in
      let y = (even_tree (p + length (text a) + 1) b (n + length (accesses a)) (from_back acs n (accesses a) (accesses b) f) (all_back Pass (additions p true a) _ h)).0 in
      (x.1 _ y, λ ps k. x.1 _ (y, k), λ ps k. (x.1 _ y, k))
  even_tree p (plus a b) n f h =
      let x = even_tree p a n (from_front acs n (accesses a) (accesses b) f) (left_passes p a b h) in
      let y = (even_tree (p + length (text a) + 1) b (n + length (accesses a)) (from_back acs n (accesses a) (accesses b) f) (right_passes p a b h)).0 in
      let each = sum_each p a b n f h in
      ((x.2 _ y, each), λ ps k. ((x.2 _ y, each), k), λ ps k. x.2 _ (y, k))

-- in a product every sum stands inside brackets
inside : (p : ℕ) (t : Tree) → Grammatical t → height t ≤ 1 → additions p false t ≡ additions p true t
inside p (access l vs) g h = refl
inside p (group t) g h = refl
inside p (times a b) g h = ap₂ (λ (x y : List Check). x ++ y) (inside p a g.0 g.1) (inside (p + length (text a) + 1) b g.2 (omega (arith, g.3)))
inside p (plus a b) g h = absurd (omega arith)

-- so the checks of a line are, term by term, those of a sum inside brackets
pub terms_pass : (p : ℕ) (t : Tree) → Grammatical t → Passes (additions p false t) → AllByRecursion (λ u. Passes (additions u.place true u.tree)) (terms_from p t)
terms_pass p (access l vs) g h = (tt, tt)
terms_pass p (group t) g h = (h, tt)
terms_pass p (times a b) g h = (subst Passes (inside p (times a b) g (omega arith)) h, tt)
terms_pass p (plus a b) g h =
    all_append (λ u. Passes (additions u.place true u.tree)) (terms_from p a) _
    (terms_pass p a g.0 (all_front Pass (additions p false a) _ h))
    (subst Passes (inside (p + length (text a) + 1) b g.1 g.2) (all_back Pass (additions p false a) _ h).1, tt)
