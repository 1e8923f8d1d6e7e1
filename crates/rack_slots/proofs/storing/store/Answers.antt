use Rattle.std.proofs.lemmas.Result.{err_from_is_err_and}
use Rattle.model.specs.Calls.{STORE, stored, refused}
use Rattle.plans.specs.Requests.{asked, fault_of}
use Rattle.plans.specs.Rooms.{rules_of}
use Rattle.slots.specs.Areas.{state_of}
use Rattle.rack_state.specs.Snapshots.{view}
use Rattle.rack_slots.proofs.Frames.{in_same_room}
use Rattle.rack_slots.proofs.Stores.{store_busy, store_refused, store_accepted}
use Rattle.rack_slots.proofs.storing.store.Goals as goal

pub returns-then-is_busy : goal.returns-then-is_busy
returns-then-is_busy g c =
    store_busy g.V.Semiring.algebra g.V.Semiring.reads (rules_of g.S.Formats.wants g.S.Formats.births) g.S.Formats.meaning _ (view c.args.rack.now)
    c.if-is_busy.ensures

pub returns : goal.returns
returns g c =
    let s = view c.args.rack.now in
    let rules = rules_of g.S.Formats.wants g.S.Formats.births in
    let q = asked g.V.Semiring.reads c.args.request.now in
    let e = c.in_ok-used.ensures in
    in_same_room g.V.Semiring.algebra g.V.Semiring.reads rules g.S.Formats.meaning (STORE q) s (stored c.in_ok-used.used) (state_of c.store.new.areas) c.args.rack.now.tensors.room
    c.store.new.areas.room e.room
    (store_accepted g.V.Semiring.algebra g.V.Semiring.reads rules g.S.Formats.meaning q s c.if-is_busy.ensures g.S.Formats.kept g.met.S.Formats.lawful c.args.rack.now.tensors.slots.eight
    c.args.rack.now.tensors.room.few_positions c.in_ok-used.used (state_of c.store.new.areas) e.stored)

pub returns-in_err-used : goal.returns-in_err-used
returns-in_err-used g c =
    let s = view c.args.rack.now in
    let rules = rules_of g.S.Formats.wants g.S.Formats.births in
    let q = asked g.V.Semiring.reads c.args.request.now in
    let e = c.in_err-used.ensures in
    let p = err_from_is_err_and c.from_residual.result c.from_residual.ensures.1 in
    rw (p.1, p.2) (in_same_room g.V.Semiring.algebra g.V.Semiring.reads rules g.S.Formats.meaning (STORE q) s (refused (fault_of c.in_err-used.field-0.0)) (state_of c.store.new.areas)
    c.args.rack.now.tensors.room c.store.new.areas.room e.room
    (store_refused g.V.Semiring.algebra g.V.Semiring.reads rules g.S.Formats.meaning q s c.if-is_busy.ensures (fault_of c.in_err-used.field-0.0) (state_of c.store.new.areas)
    e.stored.0 e.stored.1))
