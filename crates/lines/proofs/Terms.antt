-- Sums inside brackets and terms, one node on. Assumes nothing.
use Rattle.std.proofs.Common.{◌≡◌, ℕ, ◌+◌, ◌<◌, Bool, true, false, cond, not, ◌&&◌, List, [], ◌∷◌, map, length, Some, None, Decides, Option, sym, refl, ap, ◌∙◌, arith}
use Rattle.std.proofs.lemmas.List.{map-append}
use Rattle.reader.specs.declared.node.Node.{Node}
use Rattle.reader.specs.declared.node.Node.TheVariants.{Access, Group, Times, Plus}
use Rattle.model.specs.Grammar.{Tree, access, group, times, plus, text, Vars}
use Rattle.model.specs.Reading.{terms_from}
use Rattle.model.specs.Conditions.{first_fault, tree_vars, all_in, same_vars, last_product, additions}
use Rattle.reader.specs.Order.{Before}
use Rattle.reader.specs.Nodes.{node}
use Rattle.reader.proofs.Ordered.{nowhere}
use Rattle.reader.proofs.Views.{at_access, at_group, at_times, at_plus}
use Rattle.lines.specs.declared.sets.VarSet.{VarSet}
use Rattle.lines.specs.Sets.{SetOf, Within}
use Rattle.std.specs.Option.{option_or}
use Rattle.lines.specs.Ties.{Tied}
use Rattle.lines.specs.Evenness.{HasVars, PlusEvenly, SumsEvenly, term_check, TermHas, TermsHave}
use Rattle.lines.proofs.FirstFaults.{first_fault_append, first_fault_cons}
use Rattle.lines.proofs.Members.{included}

-- a tree that is written in s begins there
tied_begins : (s : List ℕ) (t : Tree) (at : ℕ) → Tied s at t → at < length s
tied_begins s (access l vs) at h = omega (arith, h.1)
tied_begins s (group t) at h = omega (arith, tied_begins s t (at + 1) h)
tied_begins s (times a b) at h = tied_begins s a at h.0
tied_begins s (plus a b) at h = tied_begins s a at h.0

or_joined : (p o q : Option ℕ) → option_or (option_or p o) q ≡ option_or p (option_or o q)
or_joined None o q = refl
or_joined (Some x) o q = refl

module _ (s : List ℕ) (ns : List Node) (i : ℕ) where
  module _ (inside : Bool) where
    abbrev Is : Option ℕ → ℕ → Tree → Type 0
    Is r at t = Tied s at t → r ≡ first_fault (additions at inside t)

    pub even_none : (Before (node ns i) i → ⊥) → SumsEvenly s ns i inside None
    even_none nay = nowhere (Is None) ns i nay

    pub even_access : (p k n : ℕ) → node ns i ≡ Access p k n → SumsEvenly s ns i inside None
    even_access p k n e = at_access (Is None) ns i p k n e (λ l vs x y td. refl)

    pub even_group : (p j : ℕ) (r : Option ℕ) → node ns i ≡ Group p j → SumsEvenly s ns j true r → SumsEvenly s ns i inside r
    even_group p j r e w = at_group (Is r) ns i p j e (λ u lt h td. w u (p + 1) h td)

    pub even_times : (j k : ℕ) (p q r : Option ℕ) → node ns i ≡ Times j k → SumsEvenly s ns j inside p → SumsEvenly s ns k inside q → r ≡ option_or p q → SumsEvenly s ns i inside r
    even_times j k p q r e g h is =
        at_times (Is r) ns i j k e
        (λ a b at lj lk ha hb td.
        let right = additions (at + length (text a) + 1) inside b in
        is ∙ ap (λ x. option_or x q) (g a at ha td.0) ∙ ap (option_or (first_fault (additions at inside a))) (h b (at + length (text a) + 1) hb td.1)
        ∙ sym (first_fault_append (additions at inside a) right))

    pub even_plus : (z j k : ℕ) (p o q r : Option ℕ) → node ns i ≡ Plus z j k → SumsEvenly s ns j inside p → PlusEvenly s ns j k z inside o → SumsEvenly s ns k inside q → r ≡ option_or (option_or p o) q → SumsEvenly s ns i inside r
    even_plus z j k p o q r e g f h is =
        at_plus (Is r) ns i z j k e
        (λ a b at x lj lk ha hb td.
        let right = additions (at + length (text a) + 1) inside b in
        let test = inside && not (same_vars (tree_vars (last_product a)) (tree_vars b)) in
        let here : o ≡ cond test (Some (at + length (text a))) None = f a at ha td.0 b (at + length (text a) + 1) hb td.1 ∙ ap (λ y. cond test (Some y) None) (sym x) in
        let rest : option_or o q ≡ first_fault ((at + length (text a), test) ∷ right) =
        ap (λ y. option_or y q) here ∙ ap (option_or (cond test (Some (at + length (text a))) None)) (h b (at + length (text a) + 1) hb td.1) ∙ first_fault_cons (at + length (text a), test) right in
        is ∙ or_joined p o q ∙ ap (λ y. option_or y (option_or o q)) (g a at ha td.0) ∙ ap (option_or (first_fault (additions at inside a))) rest
        ∙ sym (first_fault_append (additions at inside a) ((at + length (text a), test) ∷ right)))

  module _ (left : VarSet) where
    pub term_has : (m : VarSet) (r : Bool) → HasVars s ns i m → Decides r (Within left m) → TermHas s ns i left r
    term_has m r w d t at h td ls vars sl = included ls (tree_vars t) left m r vars sl (w t at h td) d

    -- what a term says alone
    alone : (r : Bool) (x : Bool) (at : ℕ) → r ≡ x → cond r None (Some at) ≡ cond (not x) (Some at) None
    alone true x at e = ap (λ y. cond (not y) (Some at) None) e
    alone false x at e = ap (λ y. cond (not y) (Some at) None) e

    pub terms_other : (at : ℕ) (r : Bool) → ((p j k : ℕ) → node ns i ≡ Plus p j k → ⊥) → TermHas s ns i left r → TermsHave s ns i at left (cond r None (Some at))
    terms_other at r nay w (access l vs) p h td is ls vars sl = ap (λ x. cond r None (Some x)) (sym is) ∙ alone r (all_in ls (tree_vars (access l vs))) p (w (access l vs) p h td ls vars sl)
    terms_other at r nay w (group u) p h td is ls vars sl = ap (λ x. cond r None (Some x)) (sym is) ∙ alone r (all_in ls (tree_vars (group u))) p (w (group u) p h td ls vars sl)
    terms_other at r nay w (times a b) p h td is ls vars sl = ap (λ x. cond r None (Some x)) (sym is) ∙ alone r (all_in ls (tree_vars (times a b))) p (w (times a b) p h td ls vars sl)
    terms_other at r nay w (plus a b) p h td is ls vars sl = absurd (nay (p + length (text a)) h.0 h.1 h.4)

    pub terms_none : (at : ℕ) → (Before (node ns i) i → ⊥) → TermsHave s ns i at left None
    terms_none at nay = nowhere (λ p t. Tied s p t → p ≡ at → (ls : List ℕ) → Vars ls → SetOf ls left → None ≡ first_fault (map (term_check ls) (terms_from p t))) ns i nay

    pub terms_plus : (at z q j k : ℕ) (before : Option ℕ) (r : Bool) (o : Option ℕ) → node ns i ≡ Plus z j k → (z + 1 < length s → q ≡ z + 1) → TermsHave s ns j at left before → TermHas s ns k left r → o ≡ option_or before (cond r None (Some q)) → TermsHave s ns i at left o
    terms_plus at z q j k before r o e inner g h is =
        at_plus (λ p t. Tied s p t → p ≡ at → (ls : List ℕ) → Vars ls → SetOf ls left → o ≡ first_fault (map (term_check ls) (terms_from p t))) ns i z j k e
        (λ a b p x lj lk ha hb td same ls vars sl.
        let m = p + length (text a) + 1 in
        let there : q ≡ m = inner (omega (arith, tied_begins s b m td.1)) ∙ ap (λ y. y + 1) (sym x) in
        let last : cond r None (Some q) ≡ first_fault (map (term_check ls) (record { place = m; tree = b } ∷ [])) =
        ap (λ y. cond r None (Some y)) there ∙ alone r (all_in ls (tree_vars b)) m (h b m hb td.1 ls vars sl) in
        is ∙ ap (λ y. option_or y (cond r None (Some q))) (g a p ha td.0 same ls vars sl)
        ∙ ap (option_or (first_fault (map (term_check ls) (terms_from p a)))) last
        ∙ sym (first_fault_append (map (term_check ls) (terms_from p a)) (map (term_check ls) (record { place = m; tree = b } ∷ [])))
        ∙ sym (ap first_fault (map-append (term_check ls) (terms_from p a) (record { place = m; tree = b } ∷ []))))
