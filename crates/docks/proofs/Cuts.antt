-- Texts cut at a byte: what a search for it finds. Assumes nothing.
use Rattle.std.proofs.Common.{◌≡◌, ℕ, suc, ◌+◌, ◌<◌, ◌≤◌, Bool, true, false, cond, not, eqb, List, [], ◌∷◌, length, take, drop, Some, None, Err, sym, refl, ap, ◌∙◌, one-add, arith}
use Rattle.std.proofs.lemmas.Bool.{true≢false, ltb-true, ltb-false}
use Rattle.std.specs.List.{position, position_or_len}
use Rattle.docks.specs.Tables.{onto, lines, fields, of_fields}
use Rattle.docks.specs.Pieces.{before, Cut}
use Rattle.std.proofs.lemmas.List.{take_all, drop_all, length-drop}
use Rattle.docks.specs.declared.fault.TableFault.TheVariants.{Fields}

-- a cut goes on past a first byte as it goes on past the bytes before the next cut
cut_more : (cut : List ℕ → List (List ℕ)) (b : ℕ) (t : Bool) (x : ℕ) (bs : List ℕ)
    → (t ≡ false → onto x (cut bs) ≡ (x ∷ take (before b bs) bs) ∷ cut (drop (before b bs + 1) bs))
    → cond t ([] ∷ cut bs) (onto x (cut bs)) ≡ take (cond (not t) (1 + before b bs) 0) (x ∷ bs) ∷ cut (drop (cond (not t) (1 + before b bs) 0 + 1) (x ∷ bs))
cut_more cut b true x bs ih = refl
cut_more cut b false x bs ih =
    let n = before b bs in
    let k : suc n + 1 ≡ suc (n + 1) = omega arith in
    ih refl ∙ sym (ap (λ m. take m (x ∷ bs) ∷ cut (drop (m + 1) (x ∷ bs))) (one-add n) ∙ ap (λ m. (x ∷ take n bs) ∷ cut (drop m (x ∷ bs))) k)

-- a line has one field where no space is left, else the one before the space and those after it
last_more : (t : Bool) (x : ℕ) (bs : List ℕ) → cond (not t) (1 + before 32 bs) 0 ≡ suc (length bs) → (before 32 bs ≡ length bs → fields bs ≡ bs ∷ [])
    → cond t ([] ∷ fields bs) (onto x (fields bs)) ≡ (x ∷ bs) ∷ []
last_more true x bs h ih = absurd (omega arith)
last_more false x bs h ih = ap (onto x) (ih (omega arith))

pub fields_last : (bs : List ℕ) → before 32 bs ≡ length bs → fields bs ≡ bs ∷ []
fields_last [] h = refl
fields_last (x ∷ bs) h = last_more (eqb x 32) x bs h (fields_last bs)

still_less : (t : Bool) (m n : ℕ) → cond (not t) (1 + m) 0 < suc n → t ≡ false → m < n
still_less true m n h e = absurd (true≢false e)
still_less false m n h e = omega arith

pub fields_next : (bs : List ℕ) → before 32 bs < length bs → fields bs ≡ take (before 32 bs) bs ∷ fields (drop (before 32 bs + 1) bs)
fields_next [] h = absurd (omega arith)
fields_next (x ∷ bs) h = cut_more fields 32 (eqb x 32) x bs (λ e. ap (onto x) (fields_next bs (still_less (eqb x 32) (before 32 bs) (length bs) h e)))

-- whatever stands after a third space, it is a field too many
many_more : (n i o : List ℕ) (t : Bool) (x : ℕ) (fs : List (List ℕ)) → of_fields (n ∷ i ∷ o ∷ cond t ([] ∷ fs) (onto x fs)) ≡ Err Fields
many_more n i o true x fs = refl
many_more n i o false x [] = refl
many_more n i o false x (f ∷ fs) = refl

pub too_many : (n i o bs : List ℕ) → of_fields (n ∷ i ∷ o ∷ fields bs) ≡ Err Fields
too_many n i o [] = refl
too_many n i o (x ∷ bs) = many_more n i o (eqb x 32) x (fields bs)

-- a text that is not empty has a line
pub lines_next : (bs : List ℕ) → 0 < length bs → lines bs ≡ take (before 10 bs) bs ∷ lines (drop (before 10 bs + 1) bs)
lines_next [] h = absurd (omega arith)
lines_next (x ∷ []) h = cut_more lines 10 (eqb x 10) x [] (λ e. refl)
lines_next (x ∷ y ∷ bs) h = cut_more lines 10 (eqb x 10) x (y ∷ bs) (λ e. ap (onto x) (lines_next (y ∷ bs) (omega arith)))

-- the same, of a cut at a byte
module _ (b : ℕ) (cut : List ℕ → List (List ℕ)) where
  pub cut_some : (bs : List ℕ) (p : List ℕ × List ℕ) → Cut b bs (Some p) → cut bs ≡ take (before b bs) bs ∷ cut (drop (before b bs + 1) bs) → cut bs ≡ p.0 ∷ cut p.1
  cut_some bs p h e = e ∙ ap (λ x. x ∷ cut (drop (before b bs + 1) bs)) (sym h.1) ∙ ap (λ y. p.0 ∷ cut y) (sym h.2)

pub first_line : (bs : List ℕ) (p : List ℕ × List ℕ) → Cut 10 bs (Some p) → 0 < length bs → lines bs ≡ p.0 ∷ lines p.1
first_line bs p h some = cut_some 10 lines bs p h (lines_next bs some)

pub less_left : (bs : List ℕ) (p : List ℕ × List ℕ) → Cut 10 bs (Some p) → length p.1 < length bs
less_left bs p h = omega (arith, h.0, ap length h.2, length-drop (before 10 bs + 1) bs)

pub last_line : (bs rest : List ℕ) → Cut 10 bs None → rest ≡ [] → 0 < length bs → lines bs ≡ bs ∷ lines rest
last_line bs rest h e some =
    lines_next bs some ∙ ap (λ x. x ∷ lines (drop (before 10 bs + 1) bs)) (take_all (before 10 bs) bs (omega (arith, h)))
    ∙ ap (λ y. bs ∷ lines y) (drop_all (before 10 bs + 1) bs (omega (arith, h)) ∙ sym e)

pub next_field : (bs : List ℕ) (p : List ℕ × List ℕ) → Cut 32 bs (Some p) → fields bs ≡ p.0 ∷ fields p.1
next_field bs p h = cut_some 32 fields bs p h (fields_next bs h.0)

module _ (bs : List ℕ) where
  pub one_field : Cut 32 bs None → of_fields (fields bs) ≡ Err Fields
  one_field h = ap of_fields (fields_last bs h)

  module _ (p : List ℕ × List ℕ) (first : Cut 32 bs (Some p)) where
    pub two_fields : Cut 32 p.1 None → of_fields (fields bs) ≡ Err Fields
    two_fields h = ap of_fields (next_field bs p first ∙ ap (λ fs. p.0 ∷ fs) (fields_last p.1 h))

    module _ (q : List ℕ × List ℕ) (second : Cut 32 p.1 (Some q)) where
      pub three_fields : Cut 32 q.1 None → fields bs ≡ p.0 ∷ q.0 ∷ q.1 ∷ []
      three_fields h = next_field bs p first ∙ ap (λ fs. p.0 ∷ fs) (next_field p.1 q second ∙ ap (λ fs. q.0 ∷ fs) (fields_last q.1 h))

      pub four_fields : (s : List ℕ × List ℕ) → Cut 32 q.1 (Some s) → of_fields (fields bs) ≡ Err Fields
      four_fields s h =
          ap of_fields (next_field bs p first ∙ ap (λ fs. p.0 ∷ fs) (next_field p.1 q second ∙ ap (λ fs. q.0 ∷ fs) (next_field q.1 s h)))
          ∙ too_many p.0 q.0 s.0 s.1

-- what a position says of the test that found it, or of the one that did not
none_when : (t : Bool) (n : ℕ) → None ≡ cond t (Some n) None → t ≡ false
none_when true n h = let z : ◌≡◌ {A = ℕ} 0 1 = cc in absurd (omega arith)
none_when false n h = refl

some_when : (t : Bool) (n k : ℕ) → Some k ≡ cond t (Some n) None → (t ≡ true) × (k ≡ n)
some_when true n k h = (refl, cc)
some_when false n k h = let z : ◌≡◌ {A = ℕ} 0 1 = cc in absurd (omega arith)

module _ {X : Type 0} (p : X → Bool) (xs : List X) where
  pub sought_none : None ≡ position p xs → length xs ≤ position_or_len p xs
  sought_none h = ltb-false _ _ (none_when _ _ h)

  pub sought_some : (n : ℕ) → Some n ≡ position p xs → (n ≡ position_or_len p xs) × (position_or_len p xs < length xs)
  sought_some n h = let w = some_when _ _ n h in (w.1, ltb-true _ _ w.0)
