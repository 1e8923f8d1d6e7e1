use Rattle.std.proofs.Common.{◌+◌, ◌<◌, map, length, get_or, drop, set, replicate, sym, ap, ◌∙◌, arith, rules}
use Rattle.std.proofs.lemmas.List.{length-map, length_push, get_or-map, map-set}
use Rattle.std.proofs.lemmas.Slice.Zip.{zip_turn, zip_end}
use Rattle.tensors.specs.Fillings.{scattered}
use Rattle.tensors.proofs.Scatters.{scatter_more, scatter_all, map_replicate}
use Rattle.tensors.proofs.values.fill_values.Goals as goal

pub bounds-values-position : goal.bounds-values-position
bounds-values-position g c =
    let t = zip_turn c.args.positions.now c.args.entries.now c.loop-position.yielded c.into_iter-position-iterator.result c.loop-position.position-iterator c.next.new.self c.next.result (cc) (cc)
    c.loop-position.yielded_by (c.in-Some.position, c.in-Some.value) c.in-Some.is c.next.ensures.steps in
    omega (arith, t.2 0, c.requires.within (length c.loop-position.yielded) t.0, c.fill.auto.values, c.loop-position.auto.values)

pub offset_bounds-values-position : goal.offset_bounds-values-position
offset_bounds-values-position g c =
    let t = zip_turn c.args.positions.now c.args.entries.now c.loop-position.yielded c.into_iter-position-iterator.result c.loop-position.position-iterator c.next.new.self c.next.result (cc) (cc)
    c.loop-position.yielded_by (c.in-Some.position, c.in-Some.value) c.in-Some.is c.next.ensures.steps in
    let below : c.in-Some.position.now < length c.loop-position.values = omega (arith, t.2 0, c.requires.within (length c.loop-position.yielded) t.0, c.fill.auto.values, c.loop-position.auto.values) in
    search rules

pub loop-position-preserved : goal.loop-position-preserved
loop-position-preserved g c =
    let reads = g.V.Semiring.reads in
    let os = c.args.positions.now in
    let vs = c.args.entries.now in
    let xs = c.loop-position.values in
    let k = length c.loop-position.yielded in
    let p = c.in-Some.position.now in
    let v = c.in-Some.value.now in
    let t = zip_turn os vs c.loop-position.yielded c.into_iter-position-iterator.result c.loop-position.position-iterator c.next.new.self c.next.result (cc) (cc)
    c.loop-position.yielded_by (c.in-Some.position, c.in-Some.value) c.in-Some.is c.next.ensures.steps in
    c.loop-position.invariant ∙ scatter_more os (map reads vs) (map reads xs) k (reads v) t.0 (omega (arith, t.1, length-map vs reads))
    ∙ ap (λ x. scattered (drop (k + 1) os) (drop (k + 1) (map reads vs)) (set (map reads xs) (get_or os k 0) x)) (get_or-map reads vs k v (reads v) t.1 ∙ ap reads (sym (t.3 v)))
    ∙ ap (λ n. scattered (drop (k + 1) os) (drop (k + 1) (map reads vs)) (set (map reads xs) n (reads v))) (sym (t.2 0))
    ∙ ap (λ x. scattered (drop (k + 1) os) (drop (k + 1) (map reads vs)) x) (sym (map-set reads xs p v))
    ∙ ap (λ n. scattered (drop n os) (drop n (map reads vs)) (map reads (set xs p v))) (sym (length_push c.loop-position.yielded (c.in-Some.position, c.in-Some.value)))

pub returns : goal.returns
returns g c =
    let reads = g.V.Semiring.reads in
    let os = c.args.positions.now in
    let vs = c.args.entries.now in
    let n = length c.args.values.now in
    let t = zip_end os vs c.loop-position.yielded c.into_iter-position-iterator.result c.loop-position.position-iterator c.next.new.self c.next.result (cc) (cc)
    c.loop-position.yielded_by c.in-None.is c.next.ensures.steps in
    sym (scatter_all os (map reads vs) (map reads c.loop-position.values) (length c.loop-position.yielded) (omega (arith, t, c.requires.paired))) ∙ sym c.loop-position.invariant
    ∙ ap (scattered os (map reads vs)) (ap (map reads) c.fill.ensures ∙ map_replicate reads n c.plain.result
    ∙ ap (replicate n) (ap reads (c.plain.ensures ∙ ap g.V.Semiring.stored c.zero.ensures) ∙ g.met.V.Semiring.again g.V.Semiring.algebra.zero))
