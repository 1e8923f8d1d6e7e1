use Rattle.std.proofs.Common.{◌≡◌, ℕ, List, ◌++◌, length, take, sym, refl, ap, ◌∙◌}
use Rattle.std.proofs.lemmas.List.{take_at}
use Rattle.docks.proofs.name.Name.new.Goals as goal

copied : (field s : List ℕ) (rest : List ℕ) → s ≡ field → take (length field) (s ++ rest) ≡ field
copied field s rest e = ap (λ t. take (length field) (t ++ rest)) e ∙ take_at field rest _ refl

pub returns : goal.returns
returns c = (sym c.if-not-is_name.ensures, copied c.args.field.now _ _ c.copy_from_slice.ensures.after)
