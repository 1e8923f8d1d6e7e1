use Rattle.std.proofs.Common.{◌≡◌, map, length, None, sym, refl, ap, ◌∙◌, subst}
use Rattle.std.proofs.lemmas.List.{length-map}
use Rattle.model.specs.Conditions.{first_fault}
use Rattle.model.specs.Stores.{level_sizes, sizes_of, entries_of, entry_checks, tensor_of}
use Rattle.model.specs.Tensors.{Tensor}
use Rattle.plans.specs.Requests.{asked, slot_sizes}
use Rattle.plans.specs.Rooms.{rules_of}
use Rattle.plans.specs.Rows.{rows_of}
use Rattle.plans.proofs.Refusals.{accepts, its_sizes, roomy}
use Rattle.tensors.specs.Stored.{Written}
use Rattle.tensors.proofs.slot_store.store_in.Goals as goal

pub invariant_of-planned : goal.invariant_of-planned
invariant_of-planned g c =
    let rules = rules_of g.S.Formats.wants g.S.Formats.births in
    let z = slot_sizes c.args.room.level_words c.args.room.positions in
    let q = c.args.request.now in
    let es = q.extents.now in
    let fs = q.formats.now in
    let cs = q.coordinates.now in
    let vs = map g.V.Semiring.reads q.entries.now in
    let n = length q.entries.now in
    let p = c.in_ok-tensor.ensures.planned in
    let a = accepts z rules q.slot q.rank es fs cs vs n (length-map q.entries.now g.V.Semiring.reads) p.0 in
    let r : q.rank ≡ length es = sym a.shape.extents in
    record {
      rank = p.1 ∙ r;
      row_rank = refl;
      few = c.in_ok-tensor.ensures.few;
      ordered = subst (λ x. first_fault (entry_checks es 0 None (rows_of x n cs)) ≡ None) r a.checked;
    }

pub write_tensor-requires-clause-measured : goal.write_tensor-requires-clause-measured
write_tensor-requires-clause-measured g c =
    let rules = rules_of g.S.Formats.wants g.S.Formats.births in
    let z = slot_sizes c.args.room.level_words c.args.room.positions in
    let q = c.args.request.now in
    let es = q.extents.now in
    let fs = q.formats.now in
    let cs = q.coordinates.now in
    let vs = map g.V.Semiring.reads q.entries.now in
    let n = length q.entries.now in
    let p = c.in_ok-tensor.ensures.planned in
    let a = accepts z rules q.slot q.rank es fs cs vs n (length-map q.entries.now g.V.Semiring.reads) p.0 in
    let r : q.rank ≡ length es = sym a.shape.extents in
    let rows = ap (λ x. level_sizes rules (rows_of x n cs) 0 1 es fs) r in
    let are = p.2 ∙ its_sizes z rules q.slot q.rank es fs cs vs n (length-map q.entries.now g.V.Semiring.reads) in
    let fits = roomy c.args.room.level_words c.args.room.positions rules (level_sizes rules (rows_of q.rank n cs) 0 1 es fs) a.fits in
    (fs, a.shape.formats ∙ r, are ∙ rows)

pub returns : goal.returns
returns g c =
    let rules = rules_of g.S.Formats.wants g.S.Formats.births in
    let z = slot_sizes c.args.room.level_words c.args.room.positions in
    let q = c.args.request.now in
    let es = q.extents.now in
    let fs = q.formats.now in
    let cs = q.coordinates.now in
    let vs = map g.V.Semiring.reads q.entries.now in
    let n = length q.entries.now in
    let p = c.in_ok-tensor.ensures.planned in
    let a = accepts z rules q.slot q.rank es fs cs vs n (length-map q.entries.now g.V.Semiring.reads) p.0 in
    let r : q.rank ≡ length es = sym a.shape.extents in
    let asks = asked g.V.Semiring.reads q in
    let Then = Written rules g.S.Formats.meaning g.S.Formats.kept g.V.Semiring.algebra.zero g.V.Semiring.reads z q.slot in
    let same-tensor : ◌≡◌ {A = Tensor g.row.V.Denot} (record { extents = es; entries = entries_of (length es) cs vs }) (tensor_of asks) = ap (λ x. record { extents = es; entries = entries_of x cs vs }) (sym r) in
    record {
      unopposed = p.0;
      answer = p.3;
      tensor = c.in_ok-tensor.tensor;
      ranked = p.1;
      sized = p.2;
      uses = refl;
      replaced = c.replace.ensures;
      written =
          subst (λ t. Then (sizes_of rules asks) c.in_ok-tensor.tensor.positions t c.args.words.now c.args.values.now c.write_tensor.new.words c.write_tensor.new.values) same-tensor
          (subst (λ ls. Then ls c.in_ok-tensor.tensor.positions (record { extents = es; entries = entries_of (length es) cs vs }) c.args.words.now c.args.values.now c.write_tensor.new.words c.write_tensor.new.values) p.2 c.write_tensor.ensures);
    }
