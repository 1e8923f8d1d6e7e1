-- What a node stands for, by its variant: what holds of every tree of that form holds of the tree that it stands for. Assumes nothing.
use Rattle.std.proofs.Common.{◌≡◌, ℕ, ◌+◌, ◌-◌, ◌<◌, List, length, sym, subst, arith}
use Rattle.reader.specs.declared.node.Node.{Node}
use Rattle.reader.specs.declared.node.Node.TheVariants.{Access, Group, Times, Plus}
use Rattle.model.specs.Grammar.{Tree, access, group, times, plus, text}
use Rattle.reader.specs.Nodes.{node, Holds}

module _ (P : ℕ → Tree → Type 0) (ns : List Node) (i : ℕ) where
  pub at_access : (p k n : ℕ) → node ns i ≡ Access p k n → ((l : ℕ) (vs : List ℕ) → l - 65 ≡ k → length vs ≡ n → P p (access l vs)) → (t : Tree) (at : ℕ) → Holds t at ns i → P at t
  at_access p k n e f (access l vs) at h =
      let y : p ≡ at = cc in
      let x : l - 65 ≡ k = cc in
      let z : length vs ≡ n = cc in
      subst (λ q. P q (access l vs)) y (f l vs x z)
  at_access p k n e f (group u) at h = let z : ◌≡◌ {A = ℕ} 0 1 = cc h.2 in absurd (omega arith)
  at_access p k n e f (times a b) at h = let z : ◌≡◌ {A = ℕ} 0 1 = cc h.4 in absurd (omega arith)
  at_access p k n e f (plus a b) at h = let z : ◌≡◌ {A = ℕ} 0 1 = cc h.4 in absurd (omega arith)

  pub at_group : (p j : ℕ) → node ns i ≡ Group p j → ((u : Tree) → j < i → Holds u (p + 1) ns j → P p (group u)) → (t : Tree) (at : ℕ) → Holds t at ns i → P at t
  at_group p j e f (access l vs) at h = let z : ◌≡◌ {A = ℕ} 0 1 = cc in absurd (omega arith)
  at_group p j e f (group u) at h =
      let z : h.0 ≡ j = cc h.2 in
      let y : at ≡ p = cc h.2 in
      subst (λ q. P q (group u)) (sym y) (f u (omega (arith, h.1)) (subst (λ q. Holds u (q + 1) ns j) y (subst (Holds u (at + 1) ns) z h.3)))
  at_group p j e f (times a b) at h = let z : ◌≡◌ {A = ℕ} 0 1 = cc h.4 in absurd (omega arith)
  at_group p j e f (plus a b) at h = let z : ◌≡◌ {A = ℕ} 0 1 = cc h.4 in absurd (omega arith)

  pub at_times : (j k : ℕ) → node ns i ≡ Times j k → ((a b : Tree) (at : ℕ) → j < i → k < i → Holds a at ns j → Holds b (at + length (text a) + 1) ns k → P at (times a b)) → (t : Tree) (at : ℕ) → Holds t at ns i → P at t
  at_times j k e f (access l vs) at h = let z : ◌≡◌ {A = ℕ} 0 1 = cc in absurd (omega arith)
  at_times j k e f (group u) at h = let z : ◌≡◌ {A = ℕ} 0 1 = cc h.2 in absurd (omega arith)
  at_times j k e f (times a b) at h =
      let y : h.0 ≡ j = cc h.4 in
      let z : h.1 ≡ k = cc h.4 in
      f a b at (omega (arith, h.2)) (omega (arith, h.3)) (subst (Holds a at ns) y h.5) (subst (Holds b (at + length (text a) + 1) ns) z h.6)
  at_times j k e f (plus a b) at h = let z : ◌≡◌ {A = ℕ} 0 1 = cc h.4 in absurd (omega arith)

  pub at_plus : (p j k : ℕ) → node ns i ≡ Plus p j k → ((a b : Tree) (at : ℕ) → at + length (text a) ≡ p → j < i → k < i → Holds a at ns j → Holds b (at + length (text a) + 1) ns k → P at (plus a b)) → (t : Tree) (at : ℕ) → Holds t at ns i → P at t
  at_plus p j k e f (access l vs) at h = let z : ◌≡◌ {A = ℕ} 0 1 = cc in absurd (omega arith)
  at_plus p j k e f (group u) at h = let z : ◌≡◌ {A = ℕ} 0 1 = cc h.2 in absurd (omega arith)
  at_plus p j k e f (times a b) at h = let z : ◌≡◌ {A = ℕ} 0 1 = cc h.4 in absurd (omega arith)
  at_plus p j k e f (plus a b) at h =
      let x : at + length (text a) ≡ p = cc h.4 in
      let y : h.0 ≡ j = cc h.4 in
      let z : h.1 ≡ k = cc h.4 in
      f a b at x (omega (arith, h.2)) (omega (arith, h.3)) (subst (Holds a at ns) y h.5) (subst (Holds b (at + length (text a) + 1) ns) z h.6)
