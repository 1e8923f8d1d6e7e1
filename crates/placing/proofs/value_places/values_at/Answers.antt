use Rattle.std.proofs.Common.{◌*◌, sym, ap, ◌∙◌}
use Rattle.placing.proofs.Clips.{values_lie}
use Rattle.placing.proofs.value_places.values_at.Goals as goal

pub returns : goal.returns
returns g c =
    let size = c.args.room.positions in
    let held = c.in_ok-number.ensures in
    values_lie _ size c.args.slot c.first_position-start.result c.min-used.result _ c.in_ok-number.tensor
    (sym held.1) (c.first_position-start.ensures.start ∙ ap (λ k. k * size) held.0) c.min-used.ensures c.first_position-start.ensures.within
