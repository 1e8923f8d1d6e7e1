use Rattle.std.proofs.Common.{◌≡◌, ◌+◌, ◌*◌, min, length, get_or, take, sym, ap, ◌∙◌, arith, rules}
use Rattle.std.proofs.lemmas.List.{length-map, length-take-le}
use Rattle.formats.specs.Sizes.{size_of}
use Rattle.slots.specs.Layouts.{needed, part}
use Rattle.slots.specs.Records.{sizes, level_of}
use Rattle.plans.specs.Rooms.{rules_of}
use Rattle.placing.proofs.Clips.{clipped, needed_more, level_on, record_at}
use Rattle.placing.proofs.level_words.place_level.Goals as goal

pub returns : goal.returns
returns g c =
    let array : length c.args.tensor.levels ≡ 3 = search rules in
    let rules = rules_of g.S.Formats.wants g.S.Formats.births in
    let t = c.args.tensor in
    let i = c.args.level in
    let size = c.args.room.level_words in
    let base = c.args.slot.number * size in
    let lv = get_or t.levels i c.index-tensor-level.result in
    let all : length (sizes t) ≡ t.rank = length-map (take t.rank t.levels) level_of ∙ length-take-le t.rank t.levels (omega arith) in
    let is = record_at t.levels t.rank i c.index-tensor-level.result (omega arith) (omega arith) in
    let more = needed_more rules (sizes t) i lv.format (size_of lv.size) (omega arith) is in
    let front = needed rules (take i (sizes t)) in
    let wide = rules.need lv.format (size_of lv.size) in
    let start = c.first_word-part.result + c.words_of-before.result in
    let end = c.first_word-part.result + c.words_of-through.result in
    let starts : start ≡ base + min front size = omega (arith, c.first_word-part.ensures.start, c.words_of-before.ensures) in
    let ends : end ≡ base + min (front + wide) size = omega (arith, c.first_word-part.ensures.start, c.words_of-through.ensures, more) in
    record {
      is = is;
      ordered = omega arith;
      within = omega (arith, c.first_word-part.ensures.start, c.first_word-part.ensures.within);
      means = λ ws.
          ap (g.S.Formats.meaning lv.format (size_of lv.size)) (clipped base size front wide start end ws starts ends)
          ∙ sym (level_on rules g.S.Formats.meaning (sizes t) (part c.args.slot.number size ws) i lv.format (size_of lv.size) (omega arith) is);
    }
