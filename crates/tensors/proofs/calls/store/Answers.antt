use Rattle.std.proofs.Common.{◌≡◌, ℕ, List, length, vec_items, sym, refl, ap, ◌∙◌, subst}
use Rattle.std.specs.Vec.{with_items}
use Rattle.std.proofs.lemmas.List.{with_items_is}
use Rattle.slots.specs.Areas.{slot_state}
use Rattle.slots.specs.Records.{slot_list}
use Rattle.plans.specs.Requests.{asked, slot_sizes}
use Rattle.plans.specs.Rooms.{rules_of}
use Rattle.tensors.specs.Stored.{Stored}
use Rattle.tensors.proofs.calls.store.Goals as goal

pub returns : goal.returns
returns g c =
    let a = c.args.areas.now in
    let ws = c.store_in.new.words in
    let vs = c.store_in.new.values in
    let Then : List ℕ → List g.row.V-Plain.Denot → List ℕ → List g.row.V-Plain.Denot → Type 0 = λ w v x y.
    Stored (rules_of g.S.Formats.wants g.S.Formats.births) g.S.Formats.meaning g.S.Formats.kept g.V.Semiring.algebra.zero g.V.Semiring.reads
    (slot_sizes a.room.level_words a.room.positions)
    (asked g.V.Semiring.reads c.args.request.now)
    (slot_state (slot_list a.slots) w v) c.store_in.result (slot_state (slot_list c.store_in.new.slots) x y) in
    let words-was = c.deref_mut.ensures.value in
    let values-was = c.deref_mut-2.ensures.value in
    let words_are : vec_items (with_items a.words ws) ≡ ws = with_items_is a.words ws (c.store_in.auto.words ∙ ap length words-was ∙ sym a.words.ok.0) in
    let values_are : vec_items (with_items a.values vs) ≡ vs = with_items_is a.values vs (c.store_in.auto.values ∙ ap length values-was ∙ sym a.values.ok.0) in
    record {
      room = refl;
      stored =
          subst (λ x. Then (vec_items a.words) (vec_items a.values) x (vec_items (with_items a.values vs))) (sym words_are)
          (subst (λ y. Then (vec_items a.words) (vec_items a.values) ws y) (sym values_are)
          (subst (λ v. Then (vec_items a.words) v ws vs) values-was
          (subst (λ w. Then w c.deref_mut-2.result.now ws vs) words-was c.store_in.ensures)));
    }
