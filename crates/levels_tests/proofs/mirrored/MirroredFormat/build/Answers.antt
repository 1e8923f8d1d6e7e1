use Rattle.std.proofs.Common.{refl, arith}
use Rattle.formats.specs.Rows.{rows_includes}
use Rattle.levels_tests.proofs.mirrored.MirroredFormat.build.Goals as goal

pub returns : goal.returns
returns c =
    let h = c.requires in
    record {
      outcome = record {
        room = omega arith;
        sound = refl;
        held = rows_includes _ (λ _. c.args._size.extent) _ _ _ (λ k i. (_, h.owned k (omega (arith, h.owners_long)), h.within k (omega (arith, h.owners_long)), refl));
        rest = refl;
      };
    }
