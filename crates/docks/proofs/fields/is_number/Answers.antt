use Rattle.std.proofs.Common.{◌≡◌, ℕ, true, ◌&&◌, ◌||◌, eqb, List, [], ◌∷◌, length, nat_lt, slice_index, rules, sym, refl, ap, ◌∙◌}
use borrow.Author.Tests.{tests}
use Rattle.std.proofs.lemmas.Bool.{ne_eqb}
use Rattle.std.proofs.lemmas.Iterator.{YieldsList-from_slice}
use Rattle.std.proofs.lemmas.Iterator.Search.{all_from_yields_List}
use Rattle.std.specs.Char.{is_ascii_digit}
use Rattle.std.specs.List.{list_all, slice_get}
use Rattle.std.specs.Option.{unwrap_or}
use Rattle.docks.specs.Tables.{is_number}
use Rattle.docks.proofs.fields.is_number.Goals as goal

first : (bs : List ℕ) → unwrap_or (slice_get bs 0) 0 ≡ slice_index bs 0
first [] = refl
first (b ∷ bs) = refl

several : (bs : List ℕ) (b : ℕ) → list_all is_ascii_digit bs ≡ true → (length bs ≡ 1 → ⊥) → b ≡ unwrap_or (slice_get bs 0) 0 → nat_lt 48 b ≡ is_number bs
several bs b all more h =
    ap (nat_lt 48) (h ∙ first bs)
    ∙ sym (ap (λ t. t && (eqb (length bs) 1 || nat_lt 48 (slice_index bs 0))) all ∙ ap (λ t. t || nat_lt 48 (slice_index bs 0)) (ne_eqb (length bs) 1 more))

pub returns-else-field-eq1 : goal.returns-else-field-eq1
returns-else-field-eq1 c =
    let bs = c.args.field.now in
    let every = all_from_yields_List is_ascii_digit _ _ c.all.result c.all.ensures.ran (YieldsList-from_slice bs cc) (λ x b q k. search (rules, tests)) in
    several bs c.unwrap_or.result (sym every ∙ c.if-all.true) c.if-field-eq1.false (c.unwrap_or.ensures ∙ ap (λ o. unwrap_or o 0) (c.copied.ensures ∙ c.first.ensures.value))
