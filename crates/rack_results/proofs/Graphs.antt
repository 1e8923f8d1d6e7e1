-- READ and DROP by the book: what is loaded of a rack is what its book has loaded. Assumes nothing.
use Rattle.std.proofs.Common.{◌≡◌, ℕ, Bool, true, false, cond, List, length, get_or, take, Some, None, Option, sym, refl, ap, ◌∙◌, subst, arith}
use Rattle.std.specs.List.{slice_get}
use Rattle.std.specs.Option.{option_map}
use Rattle.std.proofs.lemmas.Bool.{eq-eqb, ne_eqb}
use Rattle.model.specs.Semirings.{Algebra}
use Rattle.model.specs.Fibers.{Level}
use Rattle.model.specs.Formats.{LevelSize}
use Rattle.model.specs.Blocks.{Key}
use Rattle.model.specs.Running.{results}
use Rattle.model.specs.Calls.{READ, DROP, no_graph, not_drained, listed, dropped, refused}
use Rattle.model.specs.Stores.{Sizes, FormatRules}
use Rattle.model.specs.Books as book
use Rattle.model.specs.Books.{Book, Slot, commands_of, is_drained, state_of, read_answer, drop_answer, Written}
use Rattle.results.specs.Keys.{coordinates}
use Rattle.results.specs.Tables.{entries}
use Rattle.results.specs.Padding.{padded, Wide}
use Rattle.results.specs.declared.key.ResultKey.{ResultKey}
use Rattle.slots.specs.Areas.{SlotState}
use Rattle.slots.specs.Layouts.{part, storage}
use Rattle.slots.specs.Records.{sizes}
use Rattle.slots.specs.declared.records.TensorRecord.{TensorRecord}
use Rattle.rack_state.specs.Snapshots.{Snapshot}
use Rattle.rack_state.specs.Mirrors.{Mirrors, SlotMirrors, GraphMirrors, Carries}
use Rattle.rack_state.specs.Does.{Does, AreasKept}
use Rattle.rack_state.specs.declared.state.Loaded.{Loaded}
use Rattle.rack_results.proofs.Listings.{cut_listing}

module _ {P V : Type 0} (K : Algebra V) (reads : P → V) (rules : FormatRules) (meaning : ℕ → LevelSize → List ℕ → Level) where
  none_loaded :
      (s : Snapshot P) (slots : ℕ → Option (Slot V)) (g : Option (book.Loaded V)) (p : Option Loaded)
      → p ≡ None → GraphMirrors K reads rules meaning s slots g p → g ≡ None
  none_loaded s slots None p e m = refl
  none_loaded s slots (Some g) None e m = absurd m
  none_loaded s slots (Some g) (Some p) e m = absurd (let z : ◌≡◌ {A = ℕ} 0 1 = cc in omega arith)

  -- the graph that is loaded, as the book has it
  record Held (s : Snapshot P) (slots : ℕ → Option (Slot V)) (o : Option (book.Loaded V)) (p : Loaded) : Type 0 where
    pub graph : book.Loaded V
    pub is : o ≡ Some graph
    pub carries : Carries K reads rules meaning s slots graph p

  some_loaded :
      (s : Snapshot P) (slots : ℕ → Option (Slot V)) (g : Option (book.Loaded V)) (o : Option Loaded) (p : Loaded)
      → o ≡ Some p → GraphMirrors K reads rules meaning s slots g o → Held s slots g p
  some_loaded s slots None None p e m = absurd (let z : ◌≡◌ {A = ℕ} 0 1 = cc in omega arith)
  some_loaded s slots None (Some q) p e m = absurd m
  some_loaded s slots (Some g) None p e m = absurd m
  some_loaded s slots (Some g) (Some q) p e m = record {
    graph = g;
    is = refl;
    carries = let w : q ≡ p = cc in subst (λ (x : Loaded). Carries K reads rules meaning s slots g x) w m;
  }

  module _ (s : Snapshot P) (empty : s.loaded ≡ None) where
    nothing : (b : Book V) → Mirrors K reads rules meaning b s → b.loaded ≡ None
    nothing b m = none_loaded s b.slots b.loaded s.loaded empty m.graph

    pub read_none : (n : ℕ) → Does K reads rules meaning (READ n) s (refused no_graph) s
    read_none n = record {
      unchanged = λ f h. refl;
      stays = refl;
      by_book = λ b m. (sym (ap (read_answer K n) (nothing b m)), (b, Written.refuse (READ n) no_graph, m));
    }

    pub drop_none : Does K reads rules meaning DROP s (refused no_graph) s
    drop_none = record {
      unchanged = λ f h. refl;
      stays = (record { sizes = refl; slots = refl; words = refl; values = refl; keys = refl; sums = refl }, refl);
      by_book = λ b m. (sym (ap drop_answer (nothing b m)), (b, Written.refuse DROP no_graph, m));
    }

  -- what a slot holds lies in the areas of the slots alone
  same_slot :
      (s t : Snapshot P) → t.sizes ≡ s.sizes → t.slots ≡ s.slots → (n : ℕ) (x : Option (Slot V)) (r : Option TensorRecord)
      → SlotMirrors K reads rules meaning s n x r → SlotMirrors K reads rules meaning t n x r
  same_slot s t e f n None None m = tt
  same_slot s t e f n None (Some r) m = absurd m
  same_slot s t e f n (Some x) None m = absurd m
  same_slot s t e f n (Some x) (Some r) m = record {
    extents_are = m.extents_are;
    kept_as =
        ap (λ (z : Sizes × SlotState P). storage rules meaning reads (sizes r) r.positions (part n z.0.level_words z.1.words) (part n z.0.positions z.1.values))
        (ap (λ (z : Sizes). (z, t.slots)) e ∙ ap (λ (z : SlotState P). (s.sizes, z)) f)
        ∙ m.kept_as;
  }

  module _ (s : Snapshot P) (p : Loaded) (loaded : s.loaded ≡ Some p) where
    here : (b : Book V) → Mirrors K reads rules meaning b s → Held s b.slots b.loaded p
    here b m = some_loaded s b.slots b.loaded s.loaded p loaded m.graph

    pub read_early : (n : ℕ) → (p.done ≡ s.commands → ⊥) → Does K reads rules meaning (READ n) s (refused not_drained) s
    read_early n early = record {
      unchanged = λ f h. refl;
      stays = refl;
      by_book = λ b m.
          let h = here b m in
          let g = h.graph in
          let not_yet : is_drained g ≡ false =
          ne_eqb g.count (length (commands_of g)) (λ e. early (h.carries.done ∙ e ∙ sym h.carries.commands)) in (
            sym (ap (read_answer K n) h.is ∙ ap (λ (x : Bool). cond x (listed (slice_get (results K (state_of K g).table) n)) (refused not_drained)) not_yet),
            (b, Written.refuse (READ n) not_drained, m),
          );
    }

    pub read_listed :
        (n : ℕ) → p.done ≡ s.commands → (keys : List ResultKey) (sums : List P) → keys ≡ s.keys → sums ≡ s.sums → (found : Option (ResultKey × V))
        → option_map (λ e. (coordinates e.0, e.1)) found ≡ slice_get (results K (entries reads keys sums s.count)) n
        → Does K reads rules meaning (READ n) s (listed (option_map (λ e. (take p.left (coordinates e.0), e.1)) found)) s
    read_listed n done keys sums keys_are sums_are found is = record {
      unchanged = λ f h. refl;
      stays = refl;
      by_book = λ b m.
          let h = here b m in
          let g = h.graph in
          let q = h.carries in
          let drained : is_drained g ≡ true = eq-eqb g.count (length (commands_of g)) (sym q.done ∙ done ∙ q.commands) in
          let entry : Option (Key × V) = option_map (λ e. (take p.left (coordinates e.0), e.1)) found in
          let table : entries reads keys sums s.count ≡ padded 3 (state_of K g).table =
          ap (λ (x : List ResultKey). entries reads x sums s.count) keys_are ∙ ap (λ (x : List P). entries reads s.keys x s.count) sums_are ∙ q.table.table in
          let wide : Wide p.left (state_of K g).table = subst (λ (i : ℕ). Wide i (state_of K g).table) (sym q.left) q.table.wide in
          let same : entry ≡ slice_get (results K (state_of K g).table) n =
          cut_listing K (λ (e : ResultKey × V). (coordinates e.0, e.1)) found 3 p.left n (omega (arith, q.left, q.table.narrow))
          (state_of K g).table (entries reads keys sums s.count) wide table is in (
            ap listed same
                ∙ sym (ap (read_answer K n) h.is ∙ ap (λ (x : Bool). cond x (listed (slice_get (results K (state_of K g).table) n)) (refused not_drained)) drained),
            (b, Written.read n entry, m),
          );
    }

    -- DROP leaves the slots, and neither rack nor book has a graph then
    pub drop_loaded :
        (t : Snapshot P) → AreasKept s t → t.graph ≡ s.graph → t.loaded ≡ None
        → Does K reads rules meaning DROP s (dropped p.done) t
    drop_loaded t kept graph empty = record {
      unchanged = λ f h. absurd (let z : ◌≡◌ {A = ℕ} 0 1 = cc in omega arith);
      stays = (kept, graph);
      by_book = λ b m.
          let h = here b m in (
            sym (ap drop_answer h.is ∙ ap dropped (sym h.carries.done)),
            (
              record { slots = b.slots; loaded = None },
              Written.drop p.done,
              record {
                slots = λ n.
                    subst (λ (x : SlotState P). SlotMirrors K reads rules meaning t n (b.slots n) (get_or x.records n None)) (sym kept.slots)
                    (same_slot s t kept.sizes kept.slots n (b.slots n) (get_or s.slots.records n None) (m.slots n));
                held = m.held;
                small = m.small;
                graph = subst (λ (o : Option Loaded). GraphMirrors K reads rules meaning t b.slots None o) (sym empty) tt;
              },
            ),
          );
    }
