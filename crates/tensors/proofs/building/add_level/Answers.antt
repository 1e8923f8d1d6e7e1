use Rattle.std.proofs.Common.{◌≡◌, ℕ, ◌+◌, ◌-◌, ◌<◌, ◌≤◌, false, [], length, get_or, take, drop, Some, sym, refl, ap, ◌∙◌, subst, ap₂, arith}
use borrow.Rule.Slice.PartMut.{put_mid}
use Rattle.std.proofs.lemmas.List.{length-drop, take_rest}
use Rattle.std.proofs.ByRecursion.{All-get_or}
use Rattle.model.specs.Fibers.{fiber, child}
use Rattle.model.specs.Stores.{outside}
use Rattle.formats.specs.Sizes.{size_of}
use Rattle.plans.specs.Rows.{rows_in, row_in}
use Rattle.plans.proofs.Entries.{rows_at, rows_long, ordered_checked}
use Rattle.plans.proofs.Numbers.{row_long}
use Rattle.tensors.proofs.Picks.{picked_listed, picked_owners, picked_coordinates}
use Rattle.tensors.proofs.Additions.{after_front, after_rest, after_back, lawful_ascends, row_held, listed_by}
use Rattle.tensors.proofs.Storeds.{stored_means}
use Rattle.tensors.proofs.building.add_level.Goals as goal

pub build-requires-clause-lists : goal.build-requires-clause-lists
build-requires-clause-lists g c =
    let p = c.args.plan.now in
    let es = p.extents.now in
    let css = rows_in p.rows in
    listed_by (size_of c.args.level.size) _ _ _ _ (picked_owners c.pick-entries.result.now _ c.pick-entries.ensures.entries)
    (picked_coordinates c.pick-entries.result.now _ c.pick-entries.ensures.entries)
    (picked_listed c.args.depth es c.args.level.size.fibers c.requires.deep c.args.owners.now css c.requires.owned (ordered_checked es css p.ordered)
    (size_of c.args.level.size) c.requires.extent refl c.requires.entries)

pub descend-requires-clause-held : goal.descend-requires-clause-held
descend-requires-clause-held g c =
    let p = c.args.plan.now in
    let r = p.rows in
    let es = p.extents.now in
    let css = rows_in r in
    let o = ordered_checked es css p.ordered in
    let os = c.args.owners.now in
    let ws = c.args.words.now in
    let d = c.args.depth in
    let start = c.args.start in
    let s = size_of c.args.level.size in
    let M = g.S.Formats.meaning c.args.level.format s in
    let ys = c.build.new.words in
    let want = g.S.Formats.wants c.args.level.format s in
    let b = c.build.ensures in
    let size : length ys ≡ length ws - start = c.build.auto.words ∙ ap length (take_rest ws start) ∙ length-drop start ws in
    let n : start + c.need-need.result - start ≡ want = omega (arith, c.need-need.ensures) in
    let e : take (start + c.need-need.result - start) (drop start (put_mid start (length ws - start) ws ys)) ≡ take want ys =
    ap₂ take n (after_rest start ws ys (omega (arith, c.requires.room)) size) in
    let asc = lawful_ascends _ _ _ (M (take want ys)) (g.met.S.Formats.lawful c.args.level.format s (take want ys) b.sound) in
    let means = stored_means g.S.Formats.meaning c.stored.result c.args.level.format c.args.level.size _ c.stored.ensures in
    subst (λ y. (k : ℕ) → k < length os → (j : ℕ) × (child (fiber y (get_or os k 0)) (get_or (row_in r k) d 0) ≡ Some j)) (sym (means ∙ ap M e)) (λ k h.
    let all = rows_long r.rank r.count r.coordinates.now in
    let held = row_held d c.args.level.size.fibers os css c.requires.owned
    (λ m i. omega (arith, c.requires.deep, row_long es (get_or css m []) (All-get_or (λ cs. outside es cs ≡ false) css m [] i o.within)))
    (M (take want ys)) asc _ _ (picked_owners c.pick-entries.result.now _ c.pick-entries.ensures.entries)
    (picked_coordinates c.pick-entries.result.now _ c.pick-entries.ensures.entries) b.held k (omega (arith, all, c.requires.paired)) in
    (held.0, ap (λ x. child (fiber (M (take want ys)) (get_or os k 0)) (get_or x d 0)) (sym (rows_at r.rank r.count r.coordinates.now k (omega (arith, c.requires.paired)))) ∙ held.1))

pub returns : goal.returns
returns g c =
    let r = c.args.plan.now.rows in
    let os = c.args.owners.now in
    let ws = c.args.words.now in
    let d = c.args.depth in
    let start = c.args.start in
    let s = size_of c.args.level.size in
    let M = g.S.Formats.meaning c.args.level.format s in
    let ys = c.build.new.words in
    let want = g.S.Formats.wants c.args.level.format s in
    let within : start ≤ length ws = omega (arith, c.requires.room) in
    let n : start + c.need-need.result - start ≡ want = omega (arith, c.need-need.ensures) in
    let size : length ys ≡ length ws - start = c.build.auto.words ∙ ap length (take_rest ws start) ∙ length-drop start ws in
    let rest = after_rest start ws ys within size in
    let deeper = c.descend.new.owners in
    let means = stored_means g.S.Formats.meaning c.stored.result c.args.level.format c.args.level.size _ c.stored.ensures in
    record {
      front = after_front start ws ys within size;
      back = after_back start ws ys within size want (omega (arith, c.requires.room)) c.build.ensures.rest;
      sound = subst (λ x. g.S.Formats.kept c.args.level.format s (take want x)) (sym rest) c.build.ensures.sound;
      led = λ k h.
          let k-in : k < length os = omega (arith, rows_long r.rank r.count r.coordinates.now, c.requires.paired) in
          ap (λ x. child (fiber (M (take want (drop start (put_mid start (length ws - start) ws ys)))) (get_or os k 0)) (get_or x d 0)) (rows_at r.rank r.count r.coordinates.now k (omega (arith, c.requires.paired)))
          ∙ subst (λ y. child (fiber y (get_or os k 0)) (get_or (row_in r k) d 0) ≡ Some (get_or deeper k 0)) (means ∙ ap (λ m. M (take m (drop start (put_mid start (length ws - start) ws ys)))) n) (c.descend.ensures k k-in);
    }
