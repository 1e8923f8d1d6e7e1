-- Where the parts of a line stand in its text. Assumes nothing.
use Rattle.std.proofs.Common.{◌≡◌, ℕ, ◌+◌, ◌-◌, ◌*◌, ◌/◌, ◌≤◌, List, [], ◌∷◌, ◌++◌, length, drop, sym, refl, ap, ◌∙◌, arith, length-append}
use Rattle.std.proofs.lemmas.List.{append_assoc, append-nil}
use Rattle.model.specs.Grammar.{Syntax, names, args, text}
use Rattle.model.specs.Reading.{body_place, order_place, placed_accesses}
use Rattle.model.specs.Conditions.{Spells}
use Rattle.reader.specs.Lists.{vars_of}
use Rattle.reader.proofs.Having.{vars_inside}
use Rattle.lines.specs.Ties.{Tied}
use Rattle.lines.proofs.Tying.{behind, listed_names, names_length, tied_from}
use Rattle.lines.proofs.Collecting.{few_accesses}

module _ (s : List ℕ) (l : Syntax) (h : Spells s l) where
  pub body_there : drop (body_place l) s ≡ text l.body ++ (59 ∷ names l.order)
  body_there =
      behind s 0 ((82 ∷ args l.left) ++ (61 ∷ [])) (text l.body ++ (59 ∷ names l.order)) (body_place l) (simp length-append (omega arith))
      (sym h.spelled ∙ sym (append_assoc (82 ∷ args l.left) (61 ∷ []) (text l.body ++ (59 ∷ names l.order))))

  pub order_there : drop (order_place l) s ≡ names l.order ++ []
  order_there =
      behind s (body_place l) (text l.body ++ (59 ∷ [])) (names l.order) (order_place l) (simp length-append (omega arith))
      (body_there ∙ sym (append_assoc (text l.body) (59 ∷ []) (names l.order))) ∙ sym (append-nil (names l.order))

  pub left_there : drop 2 s ≡ names l.left ++ (41 ∷ (61 ∷ (text l.body ++ (59 ∷ names l.order))))
  left_there =
      behind s 0 (82 ∷ (40 ∷ [])) (names l.left ++ (41 ∷ (61 ∷ (text l.body ++ (59 ∷ names l.order))))) 2 refl
      (sym h.spelled ∙ ap (λ w. 82 ∷ (40 ∷ w)) (append_assoc (names l.left) (41 ∷ []) (61 ∷ (text l.body ++ (59 ∷ names l.order)))))

  pub line_tied : Tied s (body_place l) l.body
  line_tied = tied_from s l.body (body_place l) (59 ∷ names l.order) h.formed.body body_there

  -- how long the line and its parts are
  pub line_length : length s ≡ order_place l + (2 * length l.order - 1)
  line_length = sym (ap length h.spelled) ∙ simp length-append (omega (arith, names_length l.order))

  pub body_begins : body_place l ≡ 2 * length l.left - 1 + 4
  body_begins = simp length-append (omega (arith, names_length l.left))

  pub left_listed : vars_of s (record { place = 2; count = length l.left }) ≡ l.left
  left_listed =
      vars_inside s (record { place = 2; count = length l.left }) (omega (arith, line_length, body_begins))
      ∙ listed_names s 2 l.left (41 ∷ (61 ∷ (text l.body ++ (59 ∷ names l.order)))) left_there

  pub order_listed : vars_of s (record { place = order_place l; count = length l.order }) ≡ l.order
  order_listed = vars_inside s (record { place = order_place l; count = length l.order }) (omega (arith, line_length)) ∙ listed_names s (order_place l) l.order [] order_there

  pub left_count : (body_place l - 3) / 2 ≡ length l.left
  left_count = omega (arith, body_begins)

  pub order_count : (length s + 1 - order_place l) / 2 ≡ length l.order
  order_count = omega (arith, line_length)

  pub accesses_few : length (placed_accesses l) ≤ 85
  accesses_few = omega (arith, few_accesses l.body (body_place l), line_length, h.short)

  pub body_short : body_place l + length (text l.body) ≤ 256
  body_short = omega (arith, line_length, h.short)
