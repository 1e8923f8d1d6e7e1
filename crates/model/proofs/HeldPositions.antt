-- What is held determines the value positions: the nodes below lawful levels list each position once, with the coordinates that lead to it. Assumes nothing.
use Rattle.std.proofs.Common.{◌≡◌, ℕ, suc, ◌+◌, ◌<◌, cond, eqb, ◌⊎◌, List, [], ◌∷◌, ◌++◌, map, length, Some, sym, refl, ap, ◌∙◌, subst, inl, inr, append_assoc, append-nil, arith}
use Rattle.std.specs.List.{flat_map, AllByRecursion}
use Rattle.std.proofs.lemmas.List.FromFn.{fill_by_all}
use Rattle.std.proofs.ByRecursion.{All-append, All-map, All-from_get_or, All-weaker}
use Rattle.std.proofs.lemmas.List.{length-append, length-map, map-append}
use Rattle.std.proofs.lemmas.Bool.{cases_eq, cond-true, cond-false, eq-eqb, ne_eqb}
use Rattle.model.specs.Fibers.{Fiber, Level, Lawful, Ascends, coords, fiber, child, child_number}
use Rattle.model.specs.Tensors.{dense_value, reached, value_at, Stacked}
use Rattle.model.specs.Sums.{often}
use Rattle.model.specs.Books.{nodes, coordinates_to}
use Rattle.model.specs.Positions.{Positions}
use Rattle.model.proofs.Faults.{all_mapped, all_both}
use Rattle.model.proofs.Occurrences.{one_here, none_here, often_append, children, never_child, once_child, length_once}

-- a node: a child with the coordinates that lead to it
abbrev Node : Type 0
Node = ℕ × List ℕ

abbrev numbers : List Node → List ℕ
numbers ns = map (λ n. n.0) ns

-- what a node leads to through one level
abbrev below : Level → Node → List Node
below l n = map (λ x. (x.1, n.1 ++ x.0 ∷ [])) (fiber l n.0)

numbers_below : (cs : List ℕ) (f : Fiber) → numbers (map (λ x. (x.1, cs ++ x.0 ∷ [])) f) ≡ children f
numbers_below cs [] = refl
numbers_below cs (x ∷ f) = ap (λ xs. x.1 ∷ xs) (numbers_below cs f)

-- what holds of all that each leads to
all_through : (P Q : Node → Type 0) (l : Level) → ((n : Node) → P n → AllByRecursion Q (below l n)) → (ns : List Node) → AllByRecursion P ns → AllByRecursion Q (flat_map (below l) ns)
all_through P Q l f [] h = tt
all_through P Q l f (n ∷ ns) h = All-append Q (below l n) (flat_map (below l) ns) (f n h.0) (all_through P Q l f ns h.1)

-- the nodes have the numbers below f, each once
record Counted (f : ℕ) (ns : List Node) : Type 0 where
  pub within : AllByRecursion (λ n. n.0 < f) ns
  pub once : (j : ℕ) → j < f → often eqb j (numbers ns) ≡ 1

-- a child of one fiber only stands as often as the number of that fiber
through_one :
    (l : Level) (f j p : ℕ) → often eqb j (children (fiber l p)) ≡ 1 → ((q : ℕ) → q < f → (q ≡ p → ⊥) → often eqb j (children (fiber l q)) ≡ 0)
    → (ns : List Node) → AllByRecursion (λ n. n.0 < f) ns → often eqb j (numbers (flat_map (below l) ns)) ≡ often eqb p (numbers ns)
through_one l f j p one none [] h = refl
through_one l f j p one none (n ∷ ns) h =
    let parts : often eqb j (numbers (below l n ++ flat_map (below l) ns)) ≡ often eqb j (children (fiber l n.0)) + often eqb j (numbers (flat_map (below l) ns)) =
    ap (often eqb j) (map-append (λ (m : Node). m.0) (below l n) (flat_map (below l) ns)) ∙ often_append j (numbers (below l n)) (numbers (flat_map (below l) ns))
    ∙ ap (λ xs. often eqb j xs + often eqb j (numbers (flat_map (below l) ns))) (numbers_below n.1 (fiber l n.0)) in
    let rest = through_one l f j p one none ns h.1 in
    go (cases_eq n.0 p) parts rest
  where
    go : (n.0 ≡ p) ⊎ (n.0 ≡ p → ⊥)
        → often eqb j (numbers (below l n ++ flat_map (below l) ns)) ≡ often eqb j (children (fiber l n.0)) + often eqb j (numbers (flat_map (below l) ns))
        → often eqb j (numbers (flat_map (below l) ns)) ≡ often eqb p (numbers ns)
        → often eqb j (numbers (below l n ++ flat_map (below l) ns)) ≡ cond (eqb p n.0) 1 0 + often eqb p (numbers ns)
    go (inl e) parts rest =
        let here = one_here p n.0 e in
        let found : often eqb j (children (fiber l n.0)) ≡ 1 = ap (λ q. often eqb j (children (fiber l q))) e ∙ one in
        omega arith
    go (inr e) parts rest = let here = none_here p n.0 e in let found = none n.0 h.0 e in omega arith

counted_through : (e f m : ℕ) (l : Level) (ns : List Node) → Lawful e f m l → Counted f ns → Counted m (flat_map (below l) ns)
counted_through e f m l ns law c = record {
  within = all_through (λ n. n.0 < f) (λ n. n.0 < m) l
      (λ n lt. All-map (λ (x : Node). x.0 < m) _ (fiber l n.0) (All-from_get_or (λ (x : ℕ × ℕ). x.1 < m) (fiber l n.0) (0, 0) (λ k in_fiber. law.below n.0 k lt in_fiber)))
      ns c.within;
  once = λ j lt. each j (law.used j lt);
}
  where
    each : (j : ℕ) → (p : ℕ) × (k : ℕ) × (p < f) × (k < length (fiber l p)) × (child_number l p k ≡ j) → often eqb j (numbers (flat_map (below l) ns)) ≡ 1
    each j (p, k, p_in, k_in, is) =
        through_one l f j p
        (once_child j (fiber l p) k k_in is (λ i i-in e. (law.once p i p k p_in i-in p_in k_in (e ∙ sym is)).1))
        (λ q q_in other. never_child j (fiber l q) (λ i i-in e. other (law.once q i p k q_in i-in p_in k_in (e ∙ sym is)).0))
        ns c.within
        ∙ c.once p p_in

-- a coordinate that an ascending fiber holds leads to its own child
child_found : (f : Fiber) → Ascends (coords f) → AllByRecursion (λ x. child f x.0 ≡ Some x.1) f
child_found [] h = tt
child_found (x ∷ f) h = (
  cond-true (eqb x.0 x.0) (Some x.1) (child f x.0) (eq-eqb x.0 x.0 refl),
  all_both (λ y. x.0 < y.0) (λ y. child f y.0 ≡ Some y.1) (λ y. child (x ∷ f) y.0 ≡ Some y.1)
      (λ y lt is. cond-false (eqb x.0 y.0) (Some x.1) (child f y.0) (ne_eqb x.0 y.0 (λ e. omega arith)) ∙ is) f
      (all_mapped (λ c. x.0 < c) (λ (y : ℕ × ℕ). y.0) f h.0) (child_found f h.1),
)

-- The coordinates of a node, k of them, lead to it through the levels above, and on from it through those that are left.
abbrev Leads : List Level → List Level → ℕ → Node → Type 0
Leads all left k n = ((cs : List ℕ) → reached all (Some 0) (n.1 ++ cs) ≡ reached left (Some n.0) cs) × (length n.1 ≡ k)

leads_through : (all ls : List Level) (l : Level) (k e f m : ℕ) → Lawful e f m l → (n : Node) → n.0 < f → Leads all (l ∷ ls) k n → AllByRecursion (Leads all ls (suc k)) (below l n)
leads_through all ls l k e f m law n lt h =
    All-map (Leads all ls (suc k)) (λ (x : ℕ × ℕ). (x.1, n.1 ++ x.0 ∷ [])) (fiber l n.0)
    (
    All-weaker (λ x. child (fiber l n.0) x.0 ≡ Some x.1) (λ x. Leads all ls (suc k) (x.1, n.1 ++ x.0 ∷ []))
    (
    λ x is. (
      λ cs. ap (reached all (Some 0)) (append_assoc n.1 (x.0 ∷ []) cs) ∙ h.0 (x.0 ∷ cs) ∙ ap (λ r. reached ls r cs) is,
      let long = length-append n.1 (x.0 ∷ []) in let above = h.1 in omega arith,
    )
    )
    (fiber l n.0) (child_found (fiber l n.0) (law.ascends n.0 lt))
    )

-- the nodes below all levels
nodes_stand :
    (all : List Level) (es : List ℕ) (f : ℕ) (ls : List Level) (n k : ℕ) (ns : List Node) → Stacked es f ls n → Counted f ns → AllByRecursion (Leads all ls k) ns
    → Counted n (nodes ls ns) × AllByRecursion (Leads all [] (k + length es)) (nodes ls ns)
nodes_stand all [] f [] n k ns s c h =
    let same : k ≡ k + 0 = omega arith in
    (subst (λ m. Counted m ns) s c, subst (λ i. AllByRecursion (Leads all [] i) ns) same h)
nodes_stand all [] f (l ∷ ls) n k ns s c h = absurd s
nodes_stand all (e ∷ es) f [] n k ns s c h = absurd s
nodes_stand all (e ∷ es) f (l ∷ ls) n k ns s c h =
    let m = s.0 in
    let law = s.1 in
    let both = all_both (λ x. x.0 < f) (Leads all (l ∷ ls) k) (λ x. (x.0 < f) × Leads all (l ∷ ls) k x) (λ x p q. (p, q)) ns c.within h in
    let next = all_through (λ x. (x.0 < f) × Leads all (l ∷ ls) k x) (Leads all ls (suc k)) l (λ x p. leads_through all ls l k e f m law x p.0 p.1) ns both in
    let same : suc k + length es ≡ k + suc (length es) = omega arith in
    let r = nodes_stand all es m ls n (suc k) (flat_map (below l) ns) s.2 (counted_through e f m l ns law c) next in
    (r.0, subst (λ i. AllByRecursion (Leads all [] i) (nodes ls (flat_map (below l) ns))) same r.1)

-- the first node of a number has what all nodes have
first_node : (P : Node → Type 0) (q : ℕ) (ns : List Node) → AllByRecursion P ns → 0 < often eqb q (numbers ns) → P (q, coordinates_to ns q)
first_node P q [] h some = absurd (omega arith)
first_node P q (n ∷ ns) h some = go (cases_eq n.0 q) (first_node P q ns h.1)
  where
    go : (n.0 ≡ q) ⊎ (n.0 ≡ q → ⊥) → (0 < often eqb q (numbers ns) → P (q, coordinates_to ns q)) → P (q, coordinates_to (n ∷ ns) q)
    go (inl e) later =
        subst (λ cs. P (q, cs)) (sym (cond-true (eqb n.0 q) n.1 (coordinates_to ns q) (eq-eqb n.0 q e)))
        (subst (λ i. P (i, n.1)) e h.0)
    go (inr e) later =
        subst (λ cs. P (q, cs)) (sym (cond-false (eqb n.0 q) n.1 (coordinates_to ns q) (ne_eqb n.0 q e)))
        (let none = none_here q n.0 e in later (omega arith))

pub held_positions : (V : Type 0) → Positions V
held_positions V zero s vs h =
    let ns = nodes s.levels ((0, []) ∷ []) in
    let root : Counted 1 ((0, []) ∷ []) = record { within = (omega arith, tt); once = λ j lt. let here = one_here j 0 (omega arith) in omega arith } in
    let stand = nodes_stand s.levels s.tensor.extents 1 s.levels (length vs) 0 ((0, []) ∷ []) h.stacked root ((λ cs. refl, refl), tt) in
    let long : length ns ≡ length vs =
    sym (length-map ns (λ (n : Node). n.0)) ∙ length_once (length vs) (numbers ns) (All-map (λ x. x < length vs) (λ (n : Node). n.0) ns stand.0.within) stand.0.once in
    sym
    (
    fill_by_all (λ q. dense_value zero s.tensor (coordinates_to ns q)) vs (length ns) zero (sym long)
    λ q lt.
    let cs = coordinates_to ns q in
    let once : often eqb q (numbers ns) ≡ 1 = stand.0.once q (omega arith) in
    let found = first_node (Leads s.levels [] (0 + length s.tensor.extents)) q ns stand.1 (omega arith) in
    let many : length cs ≡ length s.tensor.extents = omega (arith, found.1) in
    sym (ap (value_at zero vs) (ap (reached s.levels (Some 0)) (sym (append-nil cs)) ∙ found.0 [])) ∙ h.dense cs many
    )
