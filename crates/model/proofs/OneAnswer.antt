-- A text has one answer only. Assumes nothing.
use Rattle.std.proofs.Common.{◌≡◌, ℕ, ◌+◌, ◌<◌, ◌≤◌, List, ◌++◌, take, drop, Some, None, sym, ap, ◌∙◌, subst, inl, inr, arith}
use Rattle.std.proofs.lemmas.List.{append_assoc, take-append-drop, take-take}
use Rattle.std.proofs.lemmas.Bool.{cases_order}
use Rattle.model.specs.Grammar.{Syntax, IsLine, Begins, NotGrammar}
use Rattle.model.specs.Conditions.{Slots, Rule, LineFault, judged, Spells, Accepts, Ungrammatical, Refuses, accepted, refused, OneAnswer}
use Rattle.model.proofs.OneLine.{one_line}

-- a front of what begins a line begins one too
pub begins_front : (p q : ℕ) (s : List ℕ) → p ≤ q → Begins (take q s) → Begins (take p s)
begins_front p q s h b =
    let parts : take p s ++ drop p (take q s) ≡ take q s = ap (λ x. x ++ drop p (take q s)) (sym (take-take p q s h)) ∙ take-append-drop p (take q s) in
    let same : take q s ++ b.0 ≡ take p s ++ (drop p (take q s) ++ b.0) = ap (λ x. x ++ b.0) (sym parts) ∙ append_assoc (take p s) (drop p (take q s)) b.0 in
    (drop p (take q s) ++ b.0, subst IsLine same b.1)

not_before : (s : List ℕ) (p q : ℕ) → NotGrammar s p → NotGrammar s q → p < q → ⊥
not_before s p q f g h = f.first (omega (arith, g.within)) (begins_front (p + 1) q s (omega arith) g.begins)

one_place : (s : List ℕ) (p q : ℕ) → NotGrammar s p → NotGrammar s q → p ≡ q
one_place s p q f g =
    elim (cases_order p q) [ inl e ↦ e | inr (inl h) ↦ absurd (not_before s p q f g h) | inr (inr h) ↦ absurd (not_before s q p g f h) ]

one_ungrammatical : (s : List ℕ) (p q : ℕ) → Ungrammatical s p → Ungrammatical s q → p ≡ q
one_ungrammatical s p q (inl f) (inl g) = f.1 ∙ sym g.1
one_ungrammatical s p q (inl f) (inr g) = absurd (omega arith)
one_ungrammatical s p q (inr f) (inl g) = absurd (omega arith)
one_ungrammatical s p q (inr f) (inr g) = one_place s p q f.1 g.1

no_line : (s : List ℕ) (p : ℕ) (l : Syntax) → Ungrammatical s p → Spells s l → ⊥
no_line s p l (inl f) g = omega (arith, g.short)
no_line s p l (inr f) g = f.1.none (l, g.formed, g.spelled)

one_spelled : (s : List ℕ) (l m : Syntax) → Spells s l → Spells s m → l ≡ m
one_spelled s l m f g = one_line l m f.formed g.formed (f.spelled ∙ sym g.spelled)

not_both : (slots : Slots) (s : List ℕ) (l : Syntax) (f : LineFault) → Accepts slots s l → Refuses slots s f → ⊥
not_both slots s l f g (inl h) = no_line s f.place l h.1 g.0
not_both slots s l f g (inr h) =
    let judges : judged slots l ≡ Some f = ap (judged slots) (one_spelled s l h.0 g.0 h.1) ∙ h.2 in
    let none : judged slots l ≡ None = g.1 in
    let z : ◌≡◌ {A = ℕ} 0 1 = cc in
    omega arith

same_fault : (r t : Rule) (p q : ℕ) → r ≡ t → p ≡ q → ◌≡◌ {A = LineFault} (record { rule = r; place = p }) (record { rule = t; place = q })
same_fault r t p q e d = cc

one_fault : (slots : Slots) (s : List ℕ) (f g : LineFault) → Refuses slots s f → Refuses slots s g → f ≡ g
one_fault slots s f g (inl a) (inl b) = same_fault f.rule g.rule f.place g.place (a.0 ∙ sym b.0) (one_ungrammatical s f.place g.place a.1 b.1)
one_fault slots s f g (inl a) (inr b) = absurd (no_line s f.place b.0 a.1 b.1)
one_fault slots s f g (inr a) (inl b) = absurd (no_line s g.place a.0 b.1 a.1)
one_fault slots s f g (inr a) (inr b) =
    let one : judged slots a.0 ≡ judged slots b.0 = ap (judged slots) (one_spelled s a.0 b.0 a.1 b.1) in
    let left : judged slots a.0 ≡ Some f = a.2 in
    let right : judged slots b.0 ≡ Some g = b.2 in
    cc

pub one_answer : OneAnswer
one_answer slots s (accepted l) (accepted m) f g = ap accepted (one_spelled s l m f.0 g.0)
one_answer slots s (accepted l) (refused b) f g = absurd (not_both slots s l b f g)
one_answer slots s (refused a) (accepted m) f g = absurd (not_both slots s m a g f)
one_answer slots s (refused a) (refused b) f g = ap refused (one_fault slots s a b f g)
