-- Variables of nodes, one node on. Assumes nothing.
use Rattle.std.proofs.Common.{◌≡◌, ℕ, ◌+◌, ◌≤◌, Bool, true, false, ◌&&◌, ◌||◌, eqb, List, [], ◌∷◌, ◌++◌, length, Decides, sym, refl, ap, ◌∙◌, subst, ⊎_elim, arith}
use Rattle.std.specs.List.{flat_map}
use Rattle.std.proofs.lemmas.List.{append_assoc, append-nil}
use Rattle.std.proofs.ByRecursion.{All-append}
use Rattle.reader.specs.declared.node.Node.{Node}
use Rattle.reader.specs.declared.node.Node.TheVariants.{Access, Group, Plus}
use Rattle.model.specs.Tensors.{has}
use Rattle.model.specs.Terms.{Access as ModelAccess}
use Rattle.model.specs.Grammar.{Tree, access, group, times, plus, text, is_var, Vars}
use Rattle.model.specs.Reading.{accesses}
use Rattle.model.specs.Conditions.{tree_vars, all_in, last_product}
use Rattle.reader.specs.Order.{Before}
use Rattle.reader.specs.Nodes.{node, Holds}
use Rattle.reader.proofs.Ordered.{nowhere}
use Rattle.reader.proofs.Views.{at_access, at_group, at_plus}
use Rattle.lines.specs.declared.sets.VarSet.{VarSet}
use Rattle.reader.specs.declared.vars.VarList.{VarList}
use Rattle.reader.specs.Lists.{vars_of}
use Rattle.reader.proofs.Having.{vars_inside}
use Rattle.lines.specs.Sets.{in_set, NoVar, WithAll, SetOf, Within}
use Rattle.lines.specs.Ties.{Tied}
use Rattle.lines.specs.Evenness.{Adds, HasVars, HasLastVars, Alike}
use Rattle.lines.proofs.Members.{or_none, included}
use Rattle.lines.proofs.Nodes.{Joins, Joined, times_joins, plus_joins}

pub joined_append : {A B : Type 0} (f : A → List B) (xs ys : List A) → flat_map f (xs ++ ys) ≡ flat_map f xs ++ flat_map f ys
joined_append f [] ys = refl
joined_append f (x ∷ xs) ys = ap (λ l. f x ++ l) (joined_append f xs ys) ∙ sym (append_assoc (f x) (flat_map f xs) (flat_map f ys))

pub has_append : (xs ys : List ℕ) (v : ℕ) → has (xs ++ ys) v ≡ (has xs v || has ys v)
has_append [] ys v = refl
has_append (x ∷ xs) ys v = ap (λ b. eqb x v || b) (has_append xs ys v) ∙ or_assoc (eqb x v) (has xs v) (has ys v)
  where
    or_assoc : (a b c : Bool) → (a || (b || c)) ≡ ((a || b) || c)
    or_assoc true b c = refl
    or_assoc false b c = refl

-- the variables of two trees side by side
vars_both : (a b : Tree) → flat_map (λ (x : ModelAccess). x.vars) (accesses a ++ accesses b) ≡ tree_vars a ++ tree_vars b
vars_both a b = joined_append (λ (x : ModelAccess). x.vars) (accesses a) (accesses b)

pub tied_vars : (s : List ℕ) (t : Tree) (at : ℕ) → Tied s at t → Vars (tree_vars t)
tied_vars s (access l vs) at h = subst Vars (sym (append-nil vs)) h.2
tied_vars s (group t) at h = tied_vars s t (at + 1) h
tied_vars s (times a b) at h = subst Vars (sym (vars_both a b)) (All-append (λ v. is_var v ≡ true) (tree_vars a) (tree_vars b) (tied_vars s a at h.0) (tied_vars s b (at + length (text a) + 1) h.1))
tied_vars s (plus a b) at h = subst Vars (sym (vars_both a b)) (All-append (λ v. is_var v ≡ true) (tree_vars a) (tree_vars b) (tied_vars s a at h.0) (tied_vars s b (at + length (text a) + 1) h.1))

or_turn : (x y z : Bool) → (y || (x || z)) ≡ ((x || y) || z)
or_turn true true z = refl
or_turn true false z = refl
or_turn false true z = refl
or_turn false false z = refl

module _ (s : List ℕ) (ns : List Node) (i : ℕ) where
  pub adds_none : (old new : VarSet) → (Before (node ns i) i → ⊥) → Adds s ns i old new
  adds_none old new nay = nowhere (λ at t. Tied s at t → WithAll old (tree_vars t) new) ns i nay

  pub adds_access : (p k n : ℕ) (v : VarList) (old new : VarSet) → node ns i ≡ Access p k n → (p + 2 ≤ length s + 1 → v ≡ record { place = p + 2; count = n }) → (Vars (vars_of s v) → WithAll old (vars_of s v) new) → Adds s ns i old new
  adds_access p k n v old new e near w =
      at_access (λ at t. Tied s at t → WithAll old (tree_vars t) new) ns i p k n e
      (λ l vs x y h.
      let here : v ≡ record { place = p + 2; count = length vs } = near (omega (arith, h.1)) ∙ ap (λ m. record { place = p + 2; count = m }) (sym y) in
      let is : vars_of s v ≡ vs = ap (vars_of s) here ∙ vars_inside s (record { place = p + 2; count = length vs }) h.1 ∙ h.0 in
      subst (λ us. WithAll old us new) (sym (append-nil vs)) (subst (λ us. WithAll old us new) is (w (subst Vars (sym is) h.2))))

  pub adds_group : (p j : ℕ) (old new : VarSet) → node ns i ≡ Group p j → Adds s ns j old new → Adds s ns i old new
  adds_group p j old new e w = at_group (λ at t. Tied s at t → WithAll old (tree_vars t) new) ns i p j e (λ u lt g h. w u (p + 1) g h)

  module _ (join : Tree → Tree → Tree) (are : (a b : Tree) → accesses (join a b) ≡ accesses a ++ accesses b) (tied : (a b : Tree) (at : ℕ) → Tied s at (join a b) → Tied s at a × Tied s (at + length (text a) + 1) b) (j k : ℕ) (joins : Joins join ns i j k) where
    pub adds_both : (old mid new : VarSet) → Adds s ns j old mid → Adds s ns k mid new → Adds s ns i old new
    adds_both old mid new g h =
        joins (λ at t. Tied s at t → WithAll old (tree_vars t) new)
        (λ a b at lj lk ha hb td v is.
        h b (at + length (text a) + 1) hb (tied a b at td).1 v is ∙ ap (λ x. has (tree_vars b) v || x) (g a at ha (tied a b at td).0 v is)
        ∙ or_turn (has (tree_vars a) v) (has (tree_vars b) v) (in_set old v) ∙ ap (λ x. x || in_set old v) (sym (has_append (tree_vars a) (tree_vars b) v))
        ∙ ap (λ l. has l v || in_set old v) (sym (ap (flat_map (λ (x : ModelAccess). x.vars)) (are a b) ∙ vars_both a b)))

  pub adds_chain : (x : Node) (j k : ℕ) → x ≡ node ns i → Joined x j k → (old mid new : VarSet) → Adds s ns j old mid → Adds s ns k mid new → Adds s ns i old new
  adds_chain x j k e is old mid new g h =
      ⊎_elim
      (λ f. adds_both times (λ a b. refl) (λ a b at t. t) j k (times_joins ns i j k (sym e ∙ f)) old mid new g h)
      (λ f. adds_both plus (λ a b. refl) (λ a b at t. t) j k (plus_joins ns i f.0 j k (sym e ∙ f.1)) old mid new g h)
      is

  pub has_vars : (none set : VarSet) → NoVar none → Adds s ns i none set → HasVars s ns i set
  has_vars none set empty w t at h td v is = w t at h td v is ∙ ap (λ b. has (tree_vars t) v || b) (empty v is) ∙ or_none (has (tree_vars t) v)

  pub last_none : (r : VarSet) → (Before (node ns i) i → ⊥) → HasLastVars s ns i r
  last_none r nay = nowhere (λ at t. Tied s at t → SetOf (tree_vars (last_product t)) r) ns i nay

  -- the last product of a sum is its last part, and that of any other node the node itself
  pub last_plus : (p j k : ℕ) (r : VarSet) → node ns i ≡ Plus p j k → HasVars s ns k r → HasLastVars s ns i r
  last_plus p j k r e w = at_plus (λ at t. Tied s at t → SetOf (tree_vars (last_product t)) r) ns i p j k e (λ a b at x lj lk ha hb td. w b (at + length (text a) + 1) hb td.1)

  pub last_other : (r : VarSet) → ((p j k : ℕ) → node ns i ≡ Plus p j k → ⊥) → HasVars s ns i r → HasLastVars s ns i r
  last_other r nay w (access l vs) at h td = w (access l vs) at h td
  last_other r nay w (group u) at h td = w (group u) at h td
  last_other r nay w (times a b) at h td = w (times a b) at h td
  last_other r nay w (plus a b) at h td = absurd (nay (at + length (text a)) h.0 h.1 h.4)

-- the last product has its variables in the text
pub last_tied_vars : (s : List ℕ) (t : Tree) (at : ℕ) → Tied s at t → Vars (tree_vars (last_product t))
last_tied_vars s (access l vs) at h = tied_vars s (access l vs) at h
last_tied_vars s (group t) at h = tied_vars s (group t) at h
last_tied_vars s (times a b) at h = tied_vars s (times a b) at h
last_tied_vars s (plus a b) at h = tied_vars s b (at + length (text a) + 1) h.1

-- both ways
module _ (s : List ℕ) (ns : List Node) (i j : ℕ) (m n : VarSet) (hm : HasLastVars s ns i m) (hn : HasVars s ns j n) where
  forth : (r : Bool) → Decides r (Within m n) → (a : Tree) (p : ℕ) → Holds a p ns i → Tied s p a → (b : Tree) (q : ℕ) → Holds b q ns j → Tied s q b → r ≡ all_in (tree_vars (last_product a)) (tree_vars b)
  forth r d a p ha ta b q hb tb = included (tree_vars (last_product a)) (tree_vars b) m n r (last_tied_vars s a p ta) (hm a p ha ta) (hn b q hb tb) d

  back : (r : Bool) → Decides r (Within n m) → (a : Tree) (p : ℕ) → Holds a p ns i → Tied s p a → (b : Tree) (q : ℕ) → Holds b q ns j → Tied s q b → r ≡ all_in (tree_vars b) (tree_vars (last_product a))
  back r d a p ha ta b q hb tb = included (tree_vars b) (tree_vars (last_product a)) n m r (tied_vars s b q tb) (hn b q hb tb) (hm a p ha ta) d

  pub alike_both : (x y : Bool) → Decides x (Within m n) → Decides y (Within n m) → Alike s ns i j (x && y)
  alike_both x y d e a p ha ta b q hb tb =
      ap (λ z. x && z) (back y e a p ha ta b q hb tb) ∙ ap (λ z. z && all_in (tree_vars b) (tree_vars (last_product a))) (forth x d a p ha ta b q hb tb)

  pub alike_not : (x : Bool) → x ≡ false → Decides x (Within m n) → Alike s ns i j x
  alike_not x fails d a p ha ta b q hb tb = fails ∙ ap (λ z. z && all_in (tree_vars b) (tree_vars (last_product a))) (sym fails ∙ forth x d a p ha ta b q hb tb)
