use Rattle.std.proofs.Common.{get_or, refl, arith}
use Rattle.plans.specs.Rows.{rows_in}
use Rattle.plans.specs.Rooms.{rules_of}
use Rattle.plans.proofs.Sizings.{sized_none, sized_fits, turn_more, sized_few}
use Rattle.plans.proofs.Entries.{rows_long}
use Rattle.plans.proofs.sizing.measure.Goals as goal

pub loop-i-init : goal.loop-i-init
loop-i-init g c =
    sized_none c.args.room.level_words c.args.room.positions (rules_of g.S.Formats.wants g.S.Formats.births)
    (rows_in c.args.rows.now) c.args.extents.now c.args.formats.now _ refl c.requires.ordered

pub level_record-requires-clause-apart : goal.level_record-requires-clause-apart
level_record-requires-clause-apart g c =
    let fit = sized_fits c.args.room.level_words c.args.room.positions (rules_of g.S.Formats.wants g.S.Formats.births)
    (rows_in c.args.rows.now) c.args.extents.now c.args.formats.now c.requires.ordered c.requires.paired
    c.loop-i.i c.loop-i.fibers c.loop-i.words c.loop-i.levels c.loop-i.invariant (omega arith) in
    omega arith

pub loop-i-preserved : goal.loop-i-preserved
loop-i-preserved g c =
    turn_more c.args.room.level_words c.args.room.positions (rules_of g.S.Formats.wants g.S.Formats.births)
    (rows_in c.args.rows.now) c.args.extents.now c.args.formats.now c.requires.ordered c.requires.paired
    c.loop-i.i c.loop-i.fibers c.loop-i.words c.loop-i.levels c.loop-i.invariant (omega arith)
    c.in_ok-level.level c.count_fronts-entries.result c.count_fronts-entries.ensures c.in_ok-level.ensures.0
    c.need-need.result c.children-fibers.result c.need-need.ensures c.children-fibers.ensures
    (omega arith) c.in_ok-level.ensures.1 (omega (arith, c.loop-i.invariant.room)) (g.met.S.Formats.ample (get_or c.args.formats.now c.loop-i.i 0) _)

pub returns-clause-few : goal.returns-clause-few
returns-clause-few g c =
    let r = c.args.rows.now in
    omega (
      arith,
      c.args.room.few_positions,
      rows_long r.rank r.count r.coordinates.now,
      sized_few c.args.room.level_words c.args.room.positions (rules_of g.S.Formats.wants g.S.Formats.births)
          (rows_in r) c.args.extents.now c.args.formats.now c.requires.ordered c.requires.paired
          c.loop-i.i c.loop-i.fibers c.loop-i.words c.loop-i.levels c.loop-i.invariant (omega arith) (omega arith),
    )
