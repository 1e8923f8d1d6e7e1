use Rattle.std.proofs.Common.{◌≡◌, ◌+◌, ◌-◌, ◌*◌, ◌≤◌, map, length, take, drop, replicate, sym, ap, ◌∙◌, subst, arith}
use borrow.Rule.Slice.PartMut.{put_mid}
use Rattle.std.proofs.lemmas.List.{take_all, take-take, drop_all, length-take-le, length-drop}
use Rattle.tensors.specs.Fillings.{scattered}
use Rattle.tensors.proofs.Middles.{mid_front, mid_part, mid_back}
use Rattle.tensors.proofs.storing.write_values.Goals as goal

pub returns : goal.returns
returns g c =
    let reads = g.V.Semiring.reads in
    let a = c.first_position-from.result in
    let k = c.args.used in
    let m = a + k - a in
    let vs = c.args.values.now in
    let ys = c.fill_values.new.values in
    let is : a + k - a ≡ k = omega arith in
    let start : a ≡ c.args.slot.number * c.args.room.positions = c.first_position-from.ensures.start in
    let fits : a + k ≤ length vs = omega (arith, c.first_position-from.ensures.within, c.requires.area, c.requires.fits) in
    let room = length-take-le (a + k - a) (drop a vs) (omega (arith, length-drop a vs)) in
    let long : length ys ≡ k = omega (arith, c.fill_values.auto.values) in
    let was = length-take-le k (drop a vs) (omega (arith, length-drop a vs)) in
    record {
      before = subst (λ n. take n (put_mid a (a + k - a) vs ys) ≡ take n vs) start (mid_front a (a + k - a) k vs ys is fits long);
      behind = subst (λ n. drop (n + k) (put_mid a (a + k - a) vs ys) ≡ drop (n + k) vs) start
          (mid_back a (a + k - a) k vs ys is fits long k (omega arith) (drop_all k ys (omega arith) ∙ sym (drop_all k (take k (drop a vs)) (omega arith))));
      filled =
          ap (map reads) (take-take k c.args.room.positions (drop (c.args.slot.number * c.args.room.positions) (put_mid a (a + k - a) vs ys)) c.requires.fits
          ∙ ap (λ n. take k (drop n (put_mid a (a + k - a) vs ys))) (sym start) ∙ mid_part a (a + k - a) k vs ys is fits long k (omega arith) ∙ take_all k ys (omega arith))
          ∙ c.fill_values.ensures ∙ ap (λ n. scattered c.args.positions.now (map reads c.args.entries.now) (replicate n g.V.Semiring.algebra.zero)) (room ∙ is);
    }
