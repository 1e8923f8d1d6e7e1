use Rattle.std.proofs.Common.{refl}
use Rattle.pieces.proofs.worked_pieces_hold.Goals as goal

pub returns : goal.returns
returns g c =
    record {
      tapes = (refl, refl, refl);
      empty_sums = λ K used. (refl, refl, refl, refl);
      no_time = refl;
      accepted = (refl, refl);
      graph = refl;
      reads = (refl, refl, refl);
      fits = (refl, refl, refl, refl);
      alike = (refl, refl, refl);
    }
