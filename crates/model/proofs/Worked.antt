-- Proofs of the worked examples. Assumes nothing.
use Rattle.std.proofs.Common.{◌≡◌, ℕ, List, [], ◌∷◌, ◌++◌, codes, sym, refl, subst, inl, inr, arith}
use Rattle.std.specs.List.{AllByRecursion}
use Rattle.std.proofs.lemmas.List.{append_assoc}
use Rattle.model.specs.Grammar.{access, Syntax, args, text, names, IsLine}
use Rattle.model.specs.Worked.{Unfinished}

-- every line has a ";"
all_of_middle : (P : ℕ → Type 0) (v w : List ℕ) (b : ℕ) → AllByRecursion P (v ++ (b ∷ w)) → P b
all_of_middle P [] w b h = h.0
all_of_middle P (c ∷ v) w b h = all_of_middle P v w b h.1

pub has_semicolon : (s : List ℕ) → IsLine s → AllByRecursion (λ b. b ≡ 59 → ⊥) s → ⊥
has_semicolon s g h =
    let l = g.0 in
    let P : ℕ → Type 0 = λ b. b ≡ 59 → ⊥ in
    let front = (82 ∷ args l.left) ++ (61 ∷ text l.body) in
    let whole : s ≡ front ++ (59 ∷ names l.order) = subst (λ x. x ≡ front ++ (59 ∷ names l.order)) g.2 (sym (append_assoc (82 ∷ args l.left) (61 ∷ text l.body) (59 ∷ names l.order))) in
    all_of_middle P front (names l.order) 59 (subst (AllByRecursion P) whole h) refl

-- the line that begins so
finished : Syntax
finished = record { left = 105 ∷ []; body = access 65 (105 ∷ []); order = 105 ∷ [] }

pub at_its_length : Unfinished 8
unfolding finished
at_its_length slots =
    inl (
      refl,
      inr (
        omega arith,
        record {
          none = λ g. has_semicolon (codes "R(i)=A(i") g ((λ e. omega arith), ((λ e. omega arith), ((λ e. omega arith), ((λ e. omega arith), ((λ e. omega arith), ((λ e. omega arith), ((λ e. omega arith), ((λ e. omega arith), tt))))))));
          within = omega arith;
          begins = (codes ");i", (finished, record { left = (refl, tt); body = (refl, (refl, tt)); order = (refl, tt) }, refl));
          first = λ h. absurd (omega arith);
        },
      ),
    )
