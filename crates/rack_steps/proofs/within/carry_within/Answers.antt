use Rattle.std.proofs.Common.{refl, is_ok}
use Rattle.commands.specs.Held.{meant}
use Rattle.plans.specs.Rooms.{rules_of}
use Rattle.slots.specs.Areas.{state_of}
use Rattle.rack_steps.specs.Working.{working}
use Rattle.rack_steps.proofs.Lending.{within, lent, room_in, whole}
use Rattle.rack_steps.proofs.within.carry_within.Goals as goal

pub invariant_of-streams : goal.invariant_of-streams
invariant_of-streams g c =
    let s = c.args.streams.now in
    record { few_words = s.few_words; few_values = s.few_values; words_fit = s.words_fit; values_fit = s.values_fit }

pub invariant_of-results : goal.invariant_of-results
invariant_of-results g c =
    let r = c.args.results.now in
    record { few_places = r.few_places; keys_fit = r.keys_fit; sums_fit = r.sums_fit }

pub returns : goal.returns
returns g c =
    let k = g.V.Semiring in
    let f = g.S.Formats in
    let a = c.args in
    let s = a.streams.now in
    let r = a.results.now in
    let x = c.carry_out.new in
    let e = c.carry_out.ensures in
    let rules = rules_of f.wants f.births in
    let ok = is_ok c.carry_out.result in
    let before = working s.tapes c.deref_mut-words.result.now c.deref_mut-values.result.now c.deref_mut-keys.result.now c.deref_mut-sums.result.now r.count in
    let fw = room_in s.word_room s.words c.deref_mut-words.result.now c.deref_mut-words.ensures.value s.words_fit in
    let fv = room_in s.value_room s.values c.deref_mut-values.result.now c.deref_mut-values.ensures.value s.values_fit in
    let fk = room_in r.places r.keys c.deref_mut-keys.result.now c.deref_mut-keys.ensures.value r.keys_fit in
    let fs = room_in r.places r.sums c.deref_mut-sums.result.now c.deref_mut-sums.ensures.value r.sums_fit in
    let kept = c.carry_out.auto in
    let inner =
    within k.algebra k.reads rules f.meaning a.tensors.now.room.level_words a.tensors.now.room.positions (state_of a.tensors.now) (meant a.command) ok
    s.word_room s.value_room r.places before (working x.tapes x.words x.values x.keys x.sums x.count)
    fw fv fk fs
    kept.words kept.values kept.keys kept.sums
    (record { words = e.words; values = e.values; keys = e.keys; sums = e.sums; counted = e.counted; done = e.done }) in
    record {
      carried = lent k.algebra k.reads rules f.meaning a.tensors.now.room.level_words a.tensors.now.room.positions (state_of a.tensors.now) s r (meant a.command) ok _ _ _ _ _
          c.deref_mut-words.ensures.value c.deref_mut-values.ensures.value c.deref_mut-keys.ensures.value c.deref_mut-sums.ensures.value
          (whole s.word_room c.deref_mut-words.result.now x.words fw kept.words) (whole s.value_room c.deref_mut-values.result.now x.values fv kept.values)
          (whole r.places c.deref_mut-keys.result.now x.keys fk kept.keys) (whole r.places c.deref_mut-sums.result.now x.sums fs kept.sums) inner;
      rooms = (refl {a = s.word_room}, refl {a = s.value_room}, refl {a = r.places});
    }
