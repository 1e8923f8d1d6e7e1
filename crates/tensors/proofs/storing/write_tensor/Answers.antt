use Rattle.std.proofs.Common.{◌≡◌, ℕ, ◌<◌, [], map, length, get_or, Some, sym, subst, arith}
use Rattle.std.proofs.lemmas.List.{length-map}
use Rattle.model.specs.Tensors.{Stacked, Holds, reached}
use Rattle.slots.specs.Layouts.{part, levels_on}
use Rattle.slots.specs.Records.{sizes}
use Rattle.plans.specs.Rows.{rows_of, rows_in, Ordered}
use Rattle.plans.specs.Rooms.{rules_of}
use Rattle.plans.proofs.Entries.{rows_long, ordered_checked}
use Rattle.tensors.specs.Stored.{tensor_at}
use Rattle.tensors.proofs.Holdings.{all_held, positions_below}
use Rattle.tensors.proofs.storing.write_tensor.Goals as goal

pub write_values-requires-clause-within : goal.write_values-requires-clause-within
write_values-requires-clause-within g c =
    let rules = rules_of g.S.Formats.wants g.S.Formats.births in
    let p = c.args.plan.now in
    let es = p.extents.now in
    let r = p.rows in
    let cs = r.coordinates.now in
    let os = c.write_levels.new.positions in
    let vs = map g.V.Semiring.reads c.args.entries.now in
    let raised = c.write_levels.ensures.raised in
    let levels = levels_on rules g.S.Formats.meaning (sizes p.tensor) (part c.args.slot.number c.args.room.level_words c.write_levels.new.words) in
    let long : length os ≡ r.count = omega (arith, c.write_levels.auto.positions, c.requires.paired.0, c.requires.paired.1) in
    let many : length vs ≡ r.count = omega (arith, length-map c.args.entries.now g.V.Semiring.reads, c.requires.paired.0) in
    let o = subst (λ x. Ordered es (rows_of x r.count cs)) p.row_rank (ordered_checked es (rows_in r) p.ordered) in
    let led = subst (λ x. (k : ℕ) → k < r.count → reached levels (Some 0) (get_or (rows_of x r.count cs) k []) ≡ Some (get_or os k 0)) p.row_rank
    (λ k h. raised.led k (omega (arith, rows_long r.rank r.count cs))) in
    λ k h. omega (arith, c.requires.used, positions_below g.V.Semiring.algebra.zero es cs vs r.count many o levels _ raised.stacked os long led k (omega (arith, long)))

pub returns : goal.returns
returns g c =
    let rules = rules_of g.S.Formats.wants g.S.Formats.births in
    let p = c.args.plan.now in
    let es = p.extents.now in
    let r = p.rows in
    let cs = r.coordinates.now in
    let os = c.write_levels.new.positions in
    let vs = map g.V.Semiring.reads c.args.entries.now in
    let raised = c.write_levels.ensures.raised in
    let levels = levels_on rules g.S.Formats.meaning (sizes p.tensor) (part c.args.slot.number c.args.room.level_words c.write_levels.new.words) in
    let long : length os ≡ r.count = omega (arith, c.write_levels.auto.positions, c.requires.paired.0, c.requires.paired.1) in
    let many : length vs ≡ r.count = omega (arith, length-map c.args.entries.now g.V.Semiring.reads, c.requires.paired.0) in
    let o = subst (λ x. Ordered es (rows_of x r.count cs)) p.row_rank (ordered_checked es (rows_in r) p.ordered) in
    let led = subst (λ x. (k : ℕ) → k < r.count → reached levels (Some 0) (get_or (rows_of x r.count cs) k []) ≡ Some (get_or os k 0)) p.row_rank
    (λ k h. raised.led k (omega (arith, rows_long r.rank r.count cs))) in
    let zero = g.V.Semiring.algebra.zero in
    record {
      words_before = c.write_levels.ensures.before;
      words_behind = c.write_levels.ensures.behind;
      values_before = c.write_values.ensures.before;
      values_behind = c.write_values.ensures.behind;
      sound = raised.sound;
      holds = subst (λ x. Holds zero (tensor_at es cs vs) (record { levels = levels; values = x })) (sym c.write_values.ensures.filled)
          (all_held zero es cs vs r.count many o levels p.tensor.positions (subst (λ m. Stacked es 1 levels m) (sym c.requires.used) raised.stacked) os long led);
    }
