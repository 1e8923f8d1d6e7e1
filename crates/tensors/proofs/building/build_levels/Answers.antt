use Rattle.std.proofs.Common.{◌≡◌, ◌+◌, ◌<◌, length, take, sym, ap, ◌∙◌, subst, arith}
use Rattle.std.proofs.lemmas.List.{length-map, get_or-take}
use Rattle.formats.specs.Sizes.{size_of}
use Rattle.slots.specs.Records.{sizes, level_of}
use Rattle.plans.specs.Rows.{rows_in}
use Rattle.plans.specs.Rooms.{rules_of}
use Rattle.plans.proofs.Entries.{rows_long, ordered_checked}
use Rattle.plans.proofs.Sizings.{sizes_long}
use Rattle.tensors.proofs.Raises.{Standing, standing_all, standing_more, next_level, level_at}
use Rattle.tensors.proofs.building.build_levels.Goals as goal

pub add_level-requires : goal.add_level-requires
add_level-requires g c =
    let rules = rules_of g.S.Formats.wants g.S.Formats.births in
    let meaning = g.S.Formats.meaning in
    let kept = g.S.Formats.kept in
    let p = c.args.plan.now in
    let es = p.extents.now in
    let ls = sizes p.tensor in
    let css = rows_in p.rows in
    let o = ordered_checked es css p.ordered in
    let same : length c.loop-depth.owners ≡ length css = omega (arith, rows_long p.rows.rank p.rows.count p.rows.coordinates.now, c.requires.paired) in
    let all : length ls ≡ p.tensor.rank = ap length c.requires.measured.2 ∙ sizes_long rules css 0 1 es c.requires.measured.0 c.requires.measured.1 ∙ sym p.rank in
    let long = length-map (take p.tensor.rank p.tensor.levels) level_of in
    let lv = c.level-item.result in
    let i = c.loop-depth.depth in
    let below : i < p.tensor.rank = omega (arith, all, long) in
    let is = level_at p.tensor.levels p.tensor.rank i lv below all ∙ ap level_of (sym (c.level-item.is ∙ get_or-take p.tensor.rank p.tensor.levels i lv below)) in
    let next = next_level rules meaning kept ls es c.loop-depth.invariant.0 css c.args.words.now o i c.loop-depth.start c.loop-depth.owners c.loop-depth.words same c.loop-depth.invariant.2
    (omega (arith, p.rank)) c.loop-depth.invariant.1 (omega (arith, all)) lv.format (size_of lv.size) is in
    record {
      deep = omega (arith, p.rank);
      paired = omega (arith, c.requires.paired);
      extent = next.extent;
      entries = next.entries;
      owned = next.owned;
      room = omega (arith, c.requires.room, next.room);
    }

pub loop-depth-preserved : goal.loop-depth-preserved
loop-depth-preserved g c =
    let rules = rules_of g.S.Formats.wants g.S.Formats.births in
    let meaning = g.S.Formats.meaning in
    let kept = g.S.Formats.kept in
    let p = c.args.plan.now in
    let es = p.extents.now in
    let ls = sizes p.tensor in
    let css = rows_in p.rows in
    let o = ordered_checked es css p.ordered in
    let same : length c.loop-depth.owners ≡ length css = omega (arith, rows_long p.rows.rank p.rows.count p.rows.coordinates.now, c.requires.paired) in
    let all : length ls ≡ p.tensor.rank = ap length c.requires.measured.2 ∙ sizes_long rules css 0 1 es c.requires.measured.0 c.requires.measured.1 ∙ sym p.rank in
    let long = length-map (take p.tensor.rank p.tensor.levels) level_of in
    let lv = c.level-item.result in
    let i = c.loop-depth.depth in
    let below : i < p.tensor.rank = omega (arith, all, long) in
    let is = level_at p.tensor.levels p.tensor.rank i lv below all ∙ ap level_of (sym (c.level-item.is ∙ get_or-take p.tensor.rank p.tensor.levels i lv below)) in
    let fs = c.loop-depth.invariant.0 in
    let added = c.add_level.ensures in (
      fs,
      c.loop-depth.invariant.1,
      subst (λ z. Standing rules meaning kept ls es fs css c.args.words.now (i + 1) (c.loop-depth.start + z) c.add_level.new.owners c.add_level.new.words) (sym c.need-start.ensures)
          (standing_more rules meaning kept ls es fs css c.args.words.now o i c.loop-depth.start c.loop-depth.owners c.loop-depth.words same c.loop-depth.invariant.2
          (omega (arith, p.rank)) c.loop-depth.invariant.1 (omega (arith, all)) lv.format (size_of lv.size) is c.add_level.new.owners c.add_level.new.words added
          (g.met.S.Formats.lawful lv.format (size_of lv.size) _ added.sound)),
    )

pub returns : goal.returns
returns g c =
    let rules = rules_of g.S.Formats.wants g.S.Formats.births in
    let meaning = g.S.Formats.meaning in
    let kept = g.S.Formats.kept in
    let p = c.args.plan.now in
    let es = p.extents.now in
    let ls = sizes p.tensor in
    let css = rows_in p.rows in
    let o = ordered_checked es css p.ordered in
    let same : length c.loop-depth.owners ≡ length css = omega (arith, rows_long p.rows.rank p.rows.count p.rows.coordinates.now, c.requires.paired) in
    let all : length ls ≡ p.tensor.rank = ap length c.requires.measured.2 ∙ sizes_long rules css 0 1 es c.requires.measured.0 c.requires.measured.1 ∙ sym p.rank in
    let long = length-map (take p.tensor.rank p.tensor.levels) level_of in
    standing_all rules meaning kept ls es c.loop-depth.invariant.0 css c.args.words.now o c.loop-depth.depth c.loop-depth.start c.loop-depth.owners c.loop-depth.words same c.loop-depth.invariant.2
    (omega (arith, all, long, p.rank)) (omega (arith, all, long))
