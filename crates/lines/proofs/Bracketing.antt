-- Grouping brackets, one node on. Assumes nothing.
use Rattle.std.proofs.Common.{◌≡◌, ℕ, suc, ◌+◌, ◌<◌, ◌≤◌, cond, List, ◌++◌, map, length, Some, None, Option, sym, refl, ap, ◌∙◌, add-one, ⊎_elim, arith}
use Rattle.std.proofs.lemmas.List.{map-append}
use Rattle.std.proofs.lemmas.Bool.{lt-ltb, le-ltb}
use Rattle.reader.specs.declared.node.Node.{Node}
use Rattle.reader.specs.declared.node.Node.TheVariants.{Access, Group}
use Rattle.model.specs.Grammar.{Tree, times, plus, text}
use Rattle.model.specs.Conditions.{first_fault, openings}
use Rattle.reader.specs.Order.{Before}
use Rattle.reader.specs.Nodes.{node}
use Rattle.reader.proofs.Ordered.{nowhere}
use Rattle.reader.proofs.Views.{at_access, at_group}
use Rattle.std.specs.Option.{option_or}
use Rattle.lines.specs.Limits.{too_deep, Deep}
use Rattle.lines.proofs.FirstFaults.{first_fault_append}
use Rattle.lines.proofs.Nodes.{Joins, Joined, times_joins, plus_joins}

module _ (ns : List Node) (i d : ℕ) where
  abbrev Is : Option ℕ → ℕ → Tree → Type 0
  Is r at t = r ≡ first_fault (map too_deep (openings at d t))

  pub deep_none : (Before (node ns i) i → ⊥) → Deep ns i d None
  deep_none nay = nowhere (Is None) ns i nay

  pub deep_access : (p k n : ℕ) → node ns i ≡ Access p k n → Deep ns i d None
  deep_access p k n e = at_access (Is None) ns i p k n e (λ l vs x y. refl)

  pub deep_over : (p j : ℕ) → node ns i ≡ Group p j → 4 ≤ d → Deep ns i d (Some p)
  deep_over p j e over =
      let lt : 4 < suc d = omega arith in
      at_group (Is (Some p)) ns i p j e (λ u h g. ap (λ b. cond b (Some p) (first_fault (map too_deep (openings (p + 1) (suc d) u)))) (sym (lt-ltb 4 (suc d) lt)))

  pub deep_group : (p j : ℕ) (r : Option ℕ) → node ns i ≡ Group p j → d < 4 → Deep ns j (d + 1) r → Deep ns i d r
  deep_group p j r e lt w =
      let le : suc d ≤ 4 = omega arith in
      at_group (Is r) ns i p j e
      (λ u h g.
      w u (p + 1) g ∙ ap (λ x. first_fault (map too_deep (openings (p + 1) x u))) (add-one d)
      ∙ ap (λ b. cond b (Some p) (first_fault (map too_deep (openings (p + 1) (suc d) u)))) (sym (le-ltb 4 (suc d) le)))

  module _ (join : Tree → Tree → Tree) (are : (a b : Tree) (at : ℕ) → openings at d (join a b) ≡ openings at d a ++ openings (at + length (text a) + 1) d b) (j k : ℕ) (joins : Joins join ns i j k) where
    pub deep_both : (p q r : Option ℕ) → Deep ns j d p → Deep ns k d q → r ≡ option_or p q → Deep ns i d r
    deep_both p q r g h e =
        joins (Is r)
        (λ a b at lj lk ha hb.
        let left = openings at d a in
        let right = openings (at + length (text a) + 1) d b in
        e ∙ ap (λ x. option_or x q) (g a at ha) ∙ ap (option_or (first_fault (map too_deep left))) (h b (at + length (text a) + 1) hb)
        ∙ sym (first_fault_append (map too_deep left) (map too_deep right)) ∙ sym (ap first_fault (map-append too_deep left right)) ∙ sym (ap (λ l. first_fault (map too_deep l)) (are a b at)))

  pub deep_chain : (x : Node) (j k : ℕ) → x ≡ node ns i → Joined x j k → (p q r : Option ℕ) → Deep ns j d p → Deep ns k d q → r ≡ option_or p q → Deep ns i d r
  deep_chain x j k e is p q r g h o =
      ⊎_elim
      (λ f. deep_both times (λ a b at. refl) j k (times_joins ns i j k (sym e ∙ f)) p q r g h o)
      (λ f. deep_both plus (λ a b at. refl) j k (plus_joins ns i f.0 j k (sym e ∙ f.1)) p q r g h o)
      is
