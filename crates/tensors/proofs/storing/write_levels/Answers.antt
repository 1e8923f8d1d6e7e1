use Rattle.std.proofs.Common.{◌≡◌, ◌+◌, ◌-◌, ◌≤◌, length, take, drop, ap, ◌∙◌, subst, arith}
use borrow.Rule.Slice.PartMut.{put_mid}
use Rattle.std.proofs.lemmas.List.{length-take-le, length-drop}
use Rattle.slots.specs.Layouts.{needed}
use Rattle.slots.specs.Records.{sizes}
use Rattle.plans.specs.Rooms.{rules_of}
use Rattle.tensors.proofs.Middles.{mid_back}
use Rattle.tensors.proofs.storing.write_levels.Goals as goal

pub returns-clause-behind : goal.returns-clause-behind
returns-clause-behind g c =
    let rules = rules_of g.S.Formats.wants g.S.Formats.births in
    let ls = sizes c.args.plan.now.tensor in
    let a = c.first_word-from.result in
    let k = c.args.room.level_words in
    let ws = c.args.words.now in
    let ys = c.build_levels.new.words in
    let is : a + k - a ≡ k = omega arith in
    let fits : a + k ≤ length ws = omega (arith, c.first_word-from.ensures.within, c.requires.area) in
    let room = length-take-le (a + k - a) (drop a ws) (omega (arith, length-drop a ws)) in
    let long : length ys ≡ k = omega (arith, c.build_levels.auto.words) in
    subst (λ n. drop (n + needed rules ls) (put_mid a (a + k - a) ws ys) ≡ drop (n + needed rules ls) ws) c.first_word-from.ensures.start
    (mid_back a (a + k - a) k ws ys is fits long (needed rules ls) c.requires.fits (c.build_levels.ensures.rest ∙ ap (λ n. drop (needed rules ls) (take n (drop a ws))) is))
