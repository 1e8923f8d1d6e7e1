-- STORE by the book: busy, refused, accepted. Assumes nothing.
use Rattle.std.proofs.Common.{◌≡◌, ℕ, ◌+◌, ◌*◌, ◌<◌, ◌≤◌, Bool, true, false, cond, eqb, List, [], length, get_or, drop, IfSome, Some, None, Option, sym, refl, ap, ◌∙◌, subst, arith}
use Rattle.std.specs.List.{AllByRecursion}
use Rattle.std.proofs.lemmas.List.{get_or-set_same, get_or-set_other}
use Rattle.std.proofs.lemmas.Bool.{cond_both, eqb-true, eqb-false}
use Rattle.model.specs.Semirings.{Algebra}
use Rattle.model.specs.Fibers.{Level, Lawful}
use Rattle.model.specs.Formats.{LevelSize}
use Rattle.model.specs.Tensors.{Holds}
use Rattle.model.specs.Calls.{Request, STORE, Fault, busy, Answer, stored, refused}
use Rattle.model.specs.Stores.{Sizes, FormatRules, store_fault, sizes_of, positions_used}
use Rattle.model.specs.Books.{Book, Slot, storage_of, with_slot, is_busy, or_refused, Answers, Written}
use Rattle.slots.specs.Areas.{SlotState}
use Rattle.slots.specs.Layouts.{part, needed}
use Rattle.slots.specs.declared.records.TensorRecord.{TensorRecord}
use Rattle.plans.specs.Requests.{slot_sizes}
use Rattle.tensors.specs.Stored.{Accepted}
use Rattle.rack_state.specs.Snapshots.{Snapshot}
use Rattle.rack_state.specs.Mirrors.{Mirrors, SlotMirrors}
use Rattle.rack_state.specs.Does.{Does, SlotsOnly, StoreFrame}
use Rattle.rack_state.specs.Busy.{under_way}
use Rattle.rack_slots.proofs.Parts.{other_part}
use Rattle.rack_slots.proofs.Bounds.{Bounded, bounded}
use Rattle.rack_slots.proofs.Filled.{new_slot, new_held, new_kept, new_extents, new_low}
use Rattle.rack_state.proofs.Mirrored.{busy_alike}
use Rattle.rack_slots.proofs.Frames.{with_slots, slot_stays, graph_stays}

-- what holds of the new slot, and of every other as it was, holds of all
each_slot :
    {V : Type 0} (slot : ℕ) (x : Slot V) (slots : ℕ → Option (Slot V)) (Q : ℕ → Option (Slot V) → Type 0)
    → Q slot (Some x) → ((n : ℕ) → (slot ≡ n → ⊥) → Q n (slots n)) → (n : ℕ) → Q n (with_slot slot x slots n)
each_slot slot x slots Q here elsewhere n =
    cond_both (eqb slot n) (Some x) (slots n) (Q n) (λ e. subst (λ (m : ℕ). Q m (Some x)) (eqb-true slot n e) here) (λ e. elsewhere n (eqb-false slot n e))

only_slots : {P : Type 0} (s : Snapshot P) (x : SlotState P) → SlotsOnly s (with_slots s x)
only_slots s x = record { sizes = refl; graph = refl; commands = refl; loaded = refl; tapes = refl; words = refl; values = refl; keys = refl; sums = refl; count = refl }

module _ {P V : Type 0} (K : Algebra V) (reads : P → V) (rules : FormatRules) (meaning : ℕ → LevelSize → List ℕ → Level) (q : Request V) (s : Snapshot P) where
  -- the sizes of its slots
  abbrev z : Sizes
  z = slot_sizes s.sizes.level_words s.sizes.positions

  -- a refusal by every book, that leaves the rack as it is
  refusal : (f : Fault) → ((b : Book V) → Mirrors K reads rules meaning b s → Answers K s.sizes rules b (STORE q) (refused f)) → Does K reads rules meaning (STORE q) s (refused f) s
  refusal f answers = record {
    unchanged = λ g e. refl;
    stays = record { others = only_slots s s.slots; words_before = refl; words_behind = refl; values_before = refl; values_behind = refl };
    by_book = λ b m. (answers b m, (b, Written.refuse (STORE q) f, m));
  }

  abbrev answer : Bool → Answer V
  answer b = cond b (refused busy) (or_refused (store_fault s.sizes rules q) (stored (positions_used rules q)))

  -- what a book answers whose graph is as the rack's
  by_rack : (b : Book V) → Mirrors K reads rules meaning b s → (u : Bool) → u ≡ under_way s.loaded s.commands → answer u ≡ answer (is_busy b.loaded)
  by_rack b m u e = ap answer (e ∙ sym (busy_alike K reads rules meaning s b.slots b.loaded s.loaded m.graph))

  pub store_busy : true ≡ under_way s.loaded s.commands → Does K reads rules meaning (STORE q) s (refused busy) s
  store_busy e = refusal busy (λ b m. by_rack b m true e)

  module _ (idle : false ≡ under_way s.loaded s.commands) where
    pub store_refused :
        (f : Fault) (x : SlotState P) → store_fault z rules q ≡ Some f → x ≡ s.slots
        → Does K reads rules meaning (STORE q) s (refused f) (with_slots s x)
    store_refused f x fault same =
        subst (λ (y : SlotState P). Does K reads rules meaning (STORE q) s (refused f) (with_slots s y)) (sym same)
        (refusal f (λ b m. sym (ap (λ (o : Option Fault). or_refused o (stored (positions_used rules q))) fault) ∙ by_rack b m false idle))

    module _ (kept : ℕ → LevelSize → List ℕ → Type 0)
        (lawful : (i : ℕ) (l : LevelSize) (ws : List ℕ) → kept i l ws → Lawful l.extent l.fibers (rules.children i l) (meaning i l ws))
        (eight : length s.slots.records ≡ 8) (few : s.sizes.positions ≤ 4096) (n : ℕ) (x : SlotState P)
        (a : Accepted rules meaning kept K.zero reads z q s.slots n x) where
      fits : Bounded z rules q
      fits = bounded z rules q a.unopposed

      framed : StoreFrame rules q s (with_slots s x)
      framed = record {
        others = only_slots s x;
        words_before = a.written.words_before;
        words_behind = a.written.words_behind;
        values_before = a.written.values_before;
        values_behind = subst (λ (m : ℕ). drop (q.slot * s.sizes.positions + m) x.values ≡ drop (q.slot * s.sizes.positions + m) s.slots.values) a.answer a.written.values_behind;
      }

      abbrev filled : Slot V
      filled = new_slot rules meaning q (part q.slot s.sizes.level_words x.words)

      the_record : get_or x.records q.slot None ≡ Some a.tensor
      the_record =
          ap (λ (rs : List (Option TensorRecord)). get_or rs q.slot None) a.replaced
          ∙ get_or-set_same s.slots.records q.slot (Some a.tensor) None (omega (arith, fits.in_range))

      other_record : (m : ℕ) → (q.slot ≡ m → ⊥) → get_or x.records m None ≡ get_or s.slots.records m None
      other_record m ne =
          ap (λ (rs : List (Option TensorRecord)). get_or rs m None) a.replaced
          ∙ get_or-set_other s.slots.records q.slot m (Some a.tensor) None (λ e. ne (sym e))

      module _ (b : Book V) (m : Mirrors K reads rules meaning b s) where
        slots_mirror : (i : ℕ) → SlotMirrors K reads rules meaning (with_slots s x) i (with_slot q.slot filled b.slots i) (get_or x.records i None)
        slots_mirror =
            each_slot q.slot filled b.slots (λ i o. SlotMirrors K reads rules meaning (with_slots s x) i o (get_or x.records i None))
            (subst (λ (r : Option TensorRecord). SlotMirrors K reads rules meaning (with_slots s x) q.slot (Some filled) r) (sym the_record)
            (record {
              extents_are = new_extents rules meaning kept K.zero reads z q s.slots n x a;
              kept_as = new_kept rules meaning kept K.zero reads z q s.slots n x a;
            }))
            (λ i ne. subst (λ (r : Option TensorRecord). SlotMirrors K reads rules meaning (with_slots s x) i (b.slots i) r) (sym (other_record i ne))
            (slot_stays K reads rules meaning s x i
            (other_part q.slot s.sizes.level_words (needed rules (sizes_of rules q)) fits.words s.slots.words x.words a.written.words_before a.written.words_behind i ne)
            (other_part q.slot s.sizes.positions (positions_used rules q) fits.positions s.slots.values x.values a.written.values_before framed.values_behind i ne)
            (b.slots i) (get_or s.slots.records i None) (m.slots i)))

        mirrors : Mirrors K reads rules meaning (record { slots = with_slot q.slot filled b.slots; loaded = b.loaded }) (with_slots s x)
        mirrors = record {
          slots = slots_mirror;
          held =
              each_slot q.slot filled b.slots (λ i o. IfSome o (λ (y : Slot V). Holds K.zero y.tensor (storage_of K.zero (Some y))))
              (new_held rules meaning kept K.zero reads z q s.slots n x a) (λ i ne. m.held i);
          small =
              each_slot q.slot filled b.slots
              (λ i o. (l : ℕ) → AllByRecursion (AllByRecursion (λ y. (y.0 < 0x80000000) × (y.1 < 0x80000000))) (get_or (storage_of K.zero o).levels l []))
              (new_low rules meaning kept K.zero reads z q s.slots n x a lawful few) (λ i ne. m.small i);
          graph = graph_stays K reads rules meaning s x b.slots (with_slot q.slot filled b.slots) b.loaded s.loaded (sym idle) m.graph;
        }

      pub store_accepted : Does K reads rules meaning (STORE q) s (stored n) (with_slots s x)
      store_accepted = record {
        unchanged = λ f e. absurd (let no : ◌≡◌ {A = ℕ} 0 1 = cc in omega arith);
        stays = framed;
        by_book = λ b m. (
          ap stored a.answer ∙ sym (ap (λ (o : Option Fault). or_refused o (stored (positions_used rules q))) a.unopposed) ∙ by_rack b m false idle,
          (record { slots = with_slot q.slot filled b.slots; loaded = b.loaded }, Written.store q n filled.levels, mirrors b m),
        );
      }
