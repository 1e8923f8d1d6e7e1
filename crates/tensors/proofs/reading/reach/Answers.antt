use Rattle.std.proofs.Common.{◌≡◌, ℕ, ◌+◌, ◌-◌, ◌<◌, ◌≤◌, min, length, take, drop, Some, sym, ap, ◌∙◌, subst, arith, rules}
use Rattle.std.proofs.lemmas.List.{length-map, length_push, length-take-le, get_or-take}
use Rattle.std.proofs.lemmas.Slice.Zip.{zip_turn, zip_end}
use Rattle.formats.specs.Sizes.{size_of}
use Rattle.model.specs.Fibers.{Ascends, coords, fiber, fiber_at, child}
use Rattle.model.specs.Tensors.{reached}
use Rattle.slots.specs.Layouts.{levels_on, Kept}
use Rattle.slots.specs.Records.{sizes, level_of}
use Rattle.plans.specs.Rooms.{rules_of}
use Rattle.tensors.proofs.Additions.{lawful_ascends}
use Rattle.tensors.proofs.Raises.{level_at}
use Rattle.tensors.proofs.Reaches.{kept_here, kept_rest, reached_step, reached_end}
use Rattle.tensors.proofs.Storeds.{stored_means}
use Rattle.tensors.proofs.reading.reach.Goals as goal

pub loop-level-preserved : goal.loop-level-preserved
loop-level-preserved g c =
    let array : length c.args.tensor.levels ≡ 3 = search rules in
    let rules = rules_of g.S.Formats.wants g.S.Formats.births in
    let meaning = g.S.Formats.meaning in
    let kept = g.S.Formats.kept in
    let t = c.args.tensor in
    let ls = sizes t in
    let ws = c.args.words.now in
    let cs = c.args.coordinates.now in
    let i = length c.loop-level.yielded in
    let lv = c.in-Some.level.now in
    let turn = zip_turn (take t.rank t.levels) cs c.loop-level.yielded c.into_iter-level-iterator.result c.loop-level.level-iterator c.next.new.self c.next.result (cc) (cc)
    c.loop-level.yielded_by (c.in-Some.level, c.in-Some.coordinate) c.in-Some.is c.next.ensures.steps in
    let few = length-take-le t.rank t.levels (omega arith) in
    let all : length ls ≡ t.rank = length-map (take t.rank t.levels) level_of ∙ few in
    let below : i < t.rank = omega (arith, turn.0, few) in
    let is = level_at t.levels t.rank i lv below all ∙ ap level_of (sym (turn.2 lv ∙ get_or-take t.rank t.levels i lv below)) in
    let ends : c.min-end.result ≡ min (c.loop-level.start + rules.need lv.format (size_of lv.size)) (length ws) = omega (arith, c.min-end.ensures, c.saturating_add.ensures, c.need-need.ensures) in
    let steps : Kept rules kept ls ws → reached (levels_on rules meaning (drop (i + 1) ls) (drop c.min-end.result ws)) c.step-reference.result (drop (i + 1) cs) ≡ reached (levels_on rules meaning ls ws) (Some 0) cs = λ k.
    let here = kept_here rules meaning kept ls ws cs i c.loop-level.start c.min-end.result lv.format (size_of lv.size) (omega (arith, all)) is c.loop-level.invariant.0 ends (c.loop-level.invariant.1 k) in
    reached_step rules meaning kept ls ws cs i c.loop-level.start c.min-end.result lv.format (size_of lv.size) (omega (arith, all)) is c.loop-level.invariant.0 ends
    c.loop-level.reference c.step-reference.result (omega (arith, c.requires))
    (subst (λ y. ((p : ℕ) → Ascends (coords (fiber y p))) → c.step-reference.result ≡ child (fiber_at y c.loop-level.reference) c.in-Some.coordinate.now)
    (stored_means meaning c.stored.result lv.format lv.size _ c.stored.ensures) c.step-reference.ensures (lawful_ascends _ _ _ _ (g.met.S.Formats.lawful lv.format (size_of lv.size) _ here)) ∙ ap (λ x. child (fiber_at (meaning lv.format (size_of lv.size) (take (c.min-end.result - c.loop-level.start) (drop c.loop-level.start ws))) c.loop-level.reference) x) (turn.3 0)) ∙ c.loop-level.invariant.2 k in
    subst (λ n. (c.min-end.result ≤ length ws) × (Kept rules kept ls ws → Kept rules kept (drop n ls) (drop c.min-end.result ws))
    × (Kept rules kept ls ws → reached (levels_on rules meaning (drop n ls) (drop c.min-end.result ws)) c.step-reference.result (drop n cs) ≡ reached (levels_on rules meaning ls ws) (Some 0) cs))
    (sym (length_push c.loop-level.yielded (c.in-Some.level, c.in-Some.coordinate))) (
      omega (arith, c.min-end.ensures),
      λ k. kept_rest rules meaning kept ls ws cs i c.loop-level.start c.min-end.result lv.format (size_of lv.size) (omega (arith, all)) is c.loop-level.invariant.0 ends (c.loop-level.invariant.1 k),
      steps,
    )

pub returns : goal.returns
returns g c =
    let array : length c.args.tensor.levels ≡ 3 = search rules in
    let t = c.args.tensor in
    let cs = c.args.coordinates.now in
    let few = length-take-le t.rank t.levels (omega arith) in
    let end = zip_end (take t.rank t.levels) cs c.loop-level.yielded c.into_iter-level-iterator.result c.loop-level.level-iterator c.next.new.self c.next.result (cc) (cc)
    c.loop-level.yielded_by c.in-None.is c.next.ensures.steps in
    λ k. sym (reached_end _ c.loop-level.reference cs (length c.loop-level.yielded) (omega (arith, end, few, c.requires))) ∙ c.loop-level.invariant.2 k
