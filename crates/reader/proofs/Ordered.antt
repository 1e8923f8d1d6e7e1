-- Nodes stay behind their parts. Assumes nothing.
use Rattle.std.proofs.Common.{◌≡◌, ℕ, ◌<◌, ◌+◌, Option, None, Some, ◌-◌, List, [], ◌∷◌, ◌++◌, length, take, slice_set, sym, ap, subst, ⊎_elim, ◌∙◌, arith, length-append}
use Rattle.std.specs.Option.{MatchOption, UnwrapsOrElse}
use Rattle.std.proofs.lemmas.List.{length-take, get_or-take, get_or_past, get_or_append_left, get_or-set_same, get_or-set_other}
use Rattle.std.proofs.Math.Seq.{get_or-append_seam}
use Rattle.std.proofs.str.Laws.{order}
use Rattle.reader.specs.declared.node.Node.{Node}
use Rattle.reader.specs.declared.node.Node.TheVariants.{Access, Group, Times, Plus}
use Rattle.reader.specs.declared.arena.Arena.{Arena}
use Rattle.reader.specs.Order.{node, Before, Behind, PartsFirst, Ordered}
use Rattle.model.specs.Grammar.{Tree, access, group, times, plus, text}
use Rattle.reader.specs.Nodes.{Holds, Pushed}

pub pushed_first : {a b : Arena} {x : Node} {r : ℕ} → Pushed a x b r → Before x a.len → Ordered a → Ordered b
pushed_first {a} {b} {x} {r} p h o i lt =
    ⊎_elim
    (λ before. subst (λ y. Before y i) (sym (p.same i before)) (o i before))
    (λ last.
    let here : r ≡ i = omega (arith, p.place, p.len) in
    subst (λ y. Before y i) (sym (ap (node b.nodes) (sym here) ∙ p.here)) (subst (Before x) (sym p.place ∙ here) h))
    (order i a.len)

pub parts_first : (a : Arena) → Ordered a → PartsFirst (take a.len a.nodes)
parts_first a o i lt =
    let below : i < a.len = omega (arith, length-take a.len a.nodes) in
    subst (λ y. Before y i) (sym (get_or-take a.len a.nodes i (Access 0 0 0) below)) (o i below)

pub ordered_none : (ns : List Node) → ns ≡ [] → PartsFirst ns
ordered_none ns e i h = absurd (omega (arith, ap length e))

pub ordered_push : (ns ms : List Node) (x : Node) → PartsFirst ns → Before x (length ns) → ms ≡ ns ++ x ∷ [] → PartsFirst ms
ordered_push ns ms x h b e i lt =
    ⊎_elim
    (λ before. subst (λ l. Before (node l i) i) (sym e) (subst (λ y. Before y i) (sym (get_or_append_left ns (x ∷ []) (Access 0 0 0) i before)) (h i before)))
    (λ last.
    let here : length ns ≡ i = omega (arith, ap length e, length-append ns (x ∷ [])) in
    subst (λ l. Before (node l i) i) (sym e)
    (subst (λ j. Before (node (ns ++ x ∷ []) j) j) here (subst (λ y. Before y (length ns)) (sym (get_or-append_seam ns x [] (Access 0 0 0))) b)))
    (order i (length ns))

-- the parts of a new node
module _ (i : ℕ) where
  pub before_access : (p k v : ℕ) → Before (Access p k v) i
  before_access p k v = (
    λ q j e. let z : ◌≡◌ {A = ℕ} 0 1 = cc in absurd (omega arith),
    λ j l e. let z : ◌≡◌ {A = ℕ} 0 1 = cc in absurd (omega arith),
    λ q j l e. let z : ◌≡◌ {A = ℕ} 0 1 = cc in absurd (omega arith),
  )

  pub before_group : (p j : ℕ) → j < i → Before (Group p j) i
  before_group p j h = (
    λ q k e. let z : j ≡ k = cc in omega arith,
    λ k l e. let z : ◌≡◌ {A = ℕ} 0 1 = cc in absurd (omega arith),
    λ q k l e. let z : ◌≡◌ {A = ℕ} 0 1 = cc in absurd (omega arith),
  )

  pub before_times : (j k : ℕ) → j < i → k < i → Before (Times j k) i
  before_times j k h g = (
    λ q l e. let z : ◌≡◌ {A = ℕ} 0 1 = cc in absurd (omega arith),
    λ l m e. let y : j ≡ l = cc in let z : k ≡ m = cc in (omega arith, omega arith),
    λ q l m e. let z : ◌≡◌ {A = ℕ} 0 1 = cc in absurd (omega arith),
  )

  pub before_plus : (p j k : ℕ) → j < i → k < i → Before (Plus p j k) i
  before_plus p j k h g = (
    λ q l e. let z : ◌≡◌ {A = ℕ} 0 1 = cc in absurd (omega arith),
    λ l m e. let z : ◌≡◌ {A = ℕ} 0 1 = cc in absurd (omega arith),
    λ q l m e. let y : j ≡ l = cc in let z : k ≡ m = cc in (omega arith, omega arith),
  )

-- a node that stands for a tree stands behind its parts
pub holds_before : (t : Tree) (at : ℕ) (ns : List Node) (i : ℕ) → Holds t at ns i → Before (node ns i) i
holds_before (access l vs) at ns i h = subst (λ x. Before x i) (sym h) (before_access i at (l - 65) (length vs))
holds_before (group t) at ns i h = subst (λ x. Before x i) (sym h.2) (before_group i at h.0 h.1)
holds_before (times a b) at ns i h = subst (λ x. Before x i) (sym h.4) (before_times i h.0 h.1 h.2 h.3)
holds_before (plus a b) at ns i h = subst (λ x. Before x i) (sym h.4) (before_plus i (at + length (text a)) h.0 h.1 h.2 h.3)

pub nowhere : (P : ℕ → Tree → Type 0) (ns : List Node) (i : ℕ) → (Before (node ns i) i → ⊥) → (t : Tree) (at : ℕ) → Holds t at ns i → P at t
nowhere P ns i nay t at h = absurd (nay (holds_before t at ns i h))

-- the nodes that were made, by their places
pub made_at : (a : Arena) (i : ℕ) → i < a.len → node (take a.len a.nodes) i ≡ node a.nodes i
made_at a i below = get_or-take a.len a.nodes i (Access 0 0 0) below

-- the parts of the node that stands at a place
pub before_at : (ns : List Node) (i : ℕ) (x : Node) → PartsFirst ns → x ≡ node ns i → Before x i
before_at ns i x h e =
    ⊎_elim
    (λ lt. subst (λ y. Before y i) (sym e) (h i lt))
    (λ le. subst (λ y. Before y i) (sym (e ∙ get_or_past ns i (Access 0 0 0) le)) (before_access i 0 0 0))
    (order i (length ns))

-- what takes the place of a node that was asked for
pub got_behind : (r : Option Node) (x y : Node) (i : ℕ) → MatchOption r (Before x i → ⊥) (λ z. (z ≡ x) × Before z i) → UnwrapsOrElse r (λ z. z ≡ Access 0 0 0) y → Behind x i y
got_behind None x y i h u = (λ b. absurd (h b), λ _. u)
got_behind (Some z) x y i h u = (λ _. u ∙ h.0, λ n. absurd (n (subst (λ w. Before w i) h.0 h.1)))

-- a node is written at a place, and the others stay
module _ (ms : List Node) (at : ℕ) (x : Node) (within : at < length ms) (P : ℕ → Node → Type 0) where
  pub written_up_to : P at x → ((j : ℕ) → j < at → P j (node ms j)) → (j : ℕ) → j < at + 1 → P j (node (slice_set ms at x) j)
  written_up_to here before j lt =
      ⊎_elim
      (λ less. subst (P j) (sym (get_or-set_other ms at j x (Access 0 0 0) (λ e. absurd (omega (arith, e, less))))) (before j less))
      (λ last.
      let same : at ≡ j = omega (arith, lt, last) in
      subst (λ i. P i (node (slice_set ms at x) i)) same (subst (P at) (sym (get_or-set_same ms at x (Access 0 0 0) within)) here))
      (order j at)
