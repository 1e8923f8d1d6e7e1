use Rattle.std.proofs.Common.{◌≡◌, length, take, sym, ap, ◌∙◌, arith, rules}
use Rattle.std.proofs.lemmas.List.{length-map, length-take-le, get_or-take}
use Rattle.formats.specs.Sizes.{size_of}
use Rattle.slots.specs.Records.{sizes, level_of}
use Rattle.plans.specs.Rooms.{rules_of}
use Rattle.placing.proofs.Clips.{needed_more, record_at}
use Rattle.placing.proofs.level_words.words_of.Goals as goal

pub loop-level-preserved : goal.loop-level-preserved
loop-level-preserved g c =
    let array : length c.args.tensor.levels ≡ 3 = search rules in
    let rules = rules_of g.S.Formats.wants g.S.Formats.births in
    let t = c.args.tensor in
    let i = c.loop-level.level-index in
    let lv = c.level-item.result in
    let few = length-take-le c.args.count t.levels (omega arith) in
    let all : length (sizes t) ≡ t.rank = length-map (take t.rank t.levels) level_of ∙ length-take-le t.rank t.levels (omega arith) in
    let is = record_at t.levels t.rank i lv (omega arith) (omega arith) ∙ ap level_of (sym (c.level-item.is ∙ get_or-take c.args.count t.levels i lv (omega arith))) in
    omega (arith, needed_more rules (sizes t) i lv.format (size_of lv.size) (omega arith) is, c.need-need.ensures, c.loop-level.invariant)
