use Rattle.std.proofs.Common.{unwrap_or, ap, ◌∙◌}
use Rattle.std.proofs.lemmas.Option.{unwrap_or-slice_get}
use Rattle.levels.proofs.stored.StoredLevel.item.Goals as goal

pub returns : goal.returns
returns g c = c.unwrap_or.ensures ∙ ap (λ o. unwrap_or o (0, 0)) c.at.ensures ∙ unwrap_or-slice_get _ c.args.i (0, 0)
