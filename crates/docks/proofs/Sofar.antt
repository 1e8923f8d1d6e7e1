-- A table that is read line by line. Assumes nothing.
use Rattle.std.proofs.Common.{◌≡◌, ℕ, ◌+◌, ◌≤◌, Bool, true, false, cond, ltb, List, [], ◌∷◌, ◌++◌, length, Ok, Err, Result, sym, refl, ap, ◌∙◌, arith}
use Rattle.std.proofs.lemmas.List.{append-nil, append_assoc, length_push, nil_from_length}
use Rattle.std.specs.Result.{result_map_both}
use Rattle.std.proofs.lemmas.Bool.{ltb-false}
use Rattle.docks.specs.Tables.{Entry, both, lines, fields, of_fields, says, table}
use Rattle.docks.specs.declared.fault.TableFault.{TableFault}
use Rattle.docks.specs.declared.fault.TableFault.TheVariants.{TooMany}
use Rattle.docks.specs.declared.fault.TableError.{TableError}

-- docks that were read, before what is still to read
abbrev pub after : List Entry → Result (List Entry) TableError → Result (List Entry) TableError
after es r = both ◌++◌ (Ok es) r

-- the docks so far and what the rest of the text says are what the text says
abbrev pub Sofar : List Entry → List ℕ → List ℕ → Type 0
Sofar es rest text = after es (table (length es + 1) (lines rest)) ≡ table 1 (lines text)

after_none : (r : Result (List Entry) TableError) → after [] r ≡ r
after_none (Ok es) = refl
after_none (Err e) = refl

after_more : (es : List Entry) (e : Entry) (r : Result (List Entry) TableError) → after (es ++ e ∷ []) r ≡ after es (both ◌∷◌ (Ok e) r)
after_more es e (Ok fs) = ap Ok (append_assoc es (e ∷ []) fs)
after_more es e (Err x) = refl

pub at_start : (es : List Entry) (text : List ℕ) → es ≡ [] → Sofar es text text
at_start es text h = ap (λ x. after x (table (length x + 1) (lines text))) h ∙ after_none _

module _ (es : List Entry) (rest text line left : List ℕ) (next : lines rest ≡ line ∷ lines left) (so : Sofar es rest text) where
  -- what the next line says, and what is left after it
  at_line : after es (both ◌∷◌ (says (length es + 1) line) (table (length es + 1 + 1) (lines left))) ≡ table 1 (lines text)
  at_line = ap (λ ls. after es (table (length es + 1) ls)) (sym next) ∙ so

  pub one_more : (e : Entry) (fs : List Entry) → Ok e ≡ says (length es + 1) line → fs ≡ es ++ e ∷ [] → Sofar fs left text
  one_more e fs h f =
      let k = length es + 1 in
      ap (λ x. after x (table (length x + 1) (lines left))) f
      ∙ ap (λ n. after (es ++ e ∷ []) (table (n + 1) (lines left))) (length_push es e)
      ∙ after_more es e (table (k + 1) (lines left))
      ∙ ap (λ r. after es (both ◌∷◌ r (table (k + 1) (lines left)))) h ∙ at_line

  pub at_fault : (x : TableError) → Err x ≡ says (length es + 1) line → Err x ≡ table 1 (lines text)
  at_fault x h = ap (λ r. after es (both ◌∷◌ r (table (length es + 1 + 1) (lines left)))) h ∙ at_line

-- a line that says a dock is one of the first 64
few_when : (t : Bool) (f : TableFault → TableError) (r : Result Entry TableFault) (e : Entry) → Ok e ≡ result_map_both (λ x. x) f (cond t (Err TooMany) r) → t ≡ false
few_when true f r e h = let z : ◌≡◌ {A = ℕ} 0 1 = cc in absurd (omega arith)
few_when false f r e h = refl

pub few : (k : ℕ) (line : List ℕ) (e : Entry) → Ok e ≡ says k line → k ≤ 64
few k line e h = ltb-false 64 k (few_when (ltb 64 k) _ (of_fields (fields line)) e h)

pub at_end : (es : List Entry) (rest text : List ℕ) → Sofar es rest text → length rest ≡ 0 → Ok es ≡ table 1 (lines text)
at_end es rest text so h =
    ap Ok (sym (append-nil es)) ∙ ap (λ bs. after es (table (length es + 1) (lines bs))) (sym (nil_from_length rest h)) ∙ so
