use Rattle.std.proofs.Common.{◌≡◌, ℕ, true, false, List, map, length, Some, Option, MatchOption, sym, subst, arith}
use Rattle.std.proofs.lemmas.List.{length-map}
use Rattle.plans.specs.Rooms.{rules_of}
use Rattle.plans.specs.Requests.{request, slot_sizes, wrong_shape, Planned}
use Rattle.plans.specs.declared.rows.Rows.{Rows}
use Rattle.plans.proofs.Entries.{ordered_checked}
use Rattle.plans.proofs.Refusals.{planned_entry, planned, rows_are}
use Rattle.plans.proofs.planning.plan.Goals as goal

-- what rows answered to lists that fit are
fitting : (rank : ℕ) (es fs cs : List ℕ) (n : ℕ) (o : Option Rows) (r : Rows)
    → MatchOption o (wrong_shape rank es fs cs n ≡ true) (λ r. (wrong_shape rank es fs cs n ≡ false) × (r.coordinates.now ≡ cs) × (r.rank ≡ rank) × (r.count ≡ n))
    → o ≡ Some r → (wrong_shape rank es fs cs n ≡ false) × (r.coordinates.now ≡ cs) × (r.rank ≡ rank) × (r.count ≡ n)
fitting rank es fs cs n o r m is =
    subst (λ p. MatchOption p (wrong_shape rank es fs cs n ≡ true) (λ r. (wrong_shape rank es fs cs n ≡ false) × (r.coordinates.now ≡ cs) × (r.rank ≡ rank) × (r.count ≡ n))) is m

pub returns-in-Some-clause-planned : goal.returns-in-Some-clause-planned
returns-in-Some-clause-planned g c =
    let q = c.args.request.now in
    let es = q.extents.now in
    let fs = q.formats.now in
    let cs = q.coordinates.now in
    let n = length q.entries.now in
    let f = fitting q.rank es fs cs n c.rows.result c.in_ok-rows.rows c.rows.ensures c.in_ok-rows.ensures.ok_part in
    planned_entry (slot_sizes c.args.room.level_words c.args.room.positions) (rules_of g.S.Formats.wants g.S.Formats.births)
    q.slot q.rank es fs cs (map g.V.Semiring.reads q.entries.now) n (length-map q.entries.now g.V.Semiring.reads) (omega arith)
    f.0 _ (rows_are c.in_ok-rows.rows q.rank n cs f.1 f.2 f.3) c.in-Some.k c.in-Some.ensures

pub measure-requires-clause-ordered : goal.measure-requires-clause-ordered
measure-requires-clause-ordered g c = ordered_checked c.args.request.now.extents.now _ (sym c.in_default.ensures)

pub returns-clause-planned : goal.returns-clause-planned
returns-clause-planned g c =
    let q = c.args.request.now in
    let es = q.extents.now in
    let fs = q.formats.now in
    let cs = q.coordinates.now in
    let n = length q.entries.now in
    let z = slot_sizes c.args.room.level_words c.args.room.positions in
    let rules = rules_of g.S.Formats.wants g.S.Formats.births in
    let vs = map g.V.Semiring.reads q.entries.now in
    let f = fitting q.rank es fs cs n c.rows.result c.in_ok-rows.rows c.rows.ensures c.in_ok-rows.ensures.ok_part in
    subst (Planned z rules (request q.slot q.rank es fs cs vs)) (sym c.ok_or-2.ensures.value)
    (planned z rules q.slot q.rank es fs cs vs n (length-map q.entries.now g.V.Semiring.reads) (omega arith)
    f.0 _ (rows_are c.in_ok-rows.rows q.rank n cs f.1 f.2 f.3) c.in_default.ensures c.measure.result c.measure.ensures.sized)
