use Rattle.std.proofs.Common.{◌≡◌, ℕ, ◌<◌, ◌≤◌, ◌&&◌, List, length, nat_le, rules, sym, ap, ◌∙◌, arith, false-eqb}
use borrow.Author.Tests.{tests}
use Rattle.std.proofs.lemmas.Iterator.{YieldsList-from_slice}
use Rattle.std.proofs.lemmas.Iterator.Search.{all_from_yields_List}
use Rattle.std.specs.List.{list_all}
use Rattle.std.proofs.lemmas.Bool.{lt-ltb, le-leb}
use Rattle.docks.specs.Tables.{is_name, is_name_byte}
use Rattle.docks.proofs.fields.is_name.Goals as goal

named : (bs : List ℕ) → 0 < length bs → length bs ≤ 16 → list_all is_name_byte bs ≡ is_name bs
named bs h k =
    sym (ap (λ t. t && (nat_le (length bs) 16 && list_all is_name_byte bs)) (lt-ltb 0 (length bs) h) ∙ ap (λ t. t && list_all is_name_byte bs) (le-leb (length bs) 16 k))

pub returns-then-field-le16 : goal.returns-then-field-le16
returns-then-field-le16 c =
    let every = all_from_yields_List is_name_byte _ _ c.all.result c.all.ensures.ran (YieldsList-from_slice c.args.field.now cc) (λ x b q k. search (rules, tests)) in
    every ∙ named c.args.field.now (omega (arith, false-eqb _ 0 (sym c.if-field-le16.true.0 ∙ c.is_empty.ensures))) c.if-field-le16.true.1
