-- What a command finds at its turn in a rack that mirrors a book. Assumes nothing.
use Rattle.std.proofs.Common.{◌≡◌, ℕ, suc, ◌+◌, ◌<◌, ◌≤◌, false, List, [], ◌∷◌, ◌++◌, length, get_or, take, IfSome, Some, None, Option, sym, refl, ap, ◌∙◌, subst, append_assoc, arith, MatchOption}
use Rattle.std.specs.List.{flat_map}
use Rattle.std.specs.Option.{option_map}
use Rattle.std.proofs.ByRecursion.{All-get_or}
use Rattle.std.proofs.lemmas.List.{length-map, length-take}
use Rattle.std.proofs.lemmas.Bool.{eqb-false}
use Rattle.model.specs.Semirings.{Algebra}
use Rattle.model.specs.Fibers.{Level}
use Rattle.model.specs.Formats.{LevelSize}
use Rattle.model.specs.Tensors.{Storage, Holds}
use Rattle.model.specs.Commands.{Command, ROOT, SCAN, MEET, JOIN, ALIGN, REPEAT, LOAD, MUL, ADD, SUM, WRITE, bytes_of}
use Rattle.model.specs.Bounds.{Small}
use Rattle.model.specs.Running.{nothing_yet}
use Rattle.model.specs.Shapes.{AllFit}
use Rattle.model.specs.Reading.{line_of}
use Rattle.model.specs.Meaning.{AllHold, extents_seen}
use Rattle.model.specs.Named.{NamesHeld}
use Rattle.model.specs.Stores.{FormatRules}
use Rattle.model.specs.Books.{Slot, Loaded, storage_of, tensors_of, commands_of, is_drained, state_of}
use Rattle.model.specs.Promises.{SlotsHold}
use Rattle.model.proofs.Central.{well_shaped}
use Rattle.model.proofs.NamedSlots.{named}
use Rattle.model.proofs.PayloadBounds.{runs_bounded}
use Rattle.model.proofs.RunGrowth.{fits_at}
use Rattle.model.proofs.SmallGraphs.{small_graphs}
use Rattle.model.specs.Named.{KeysOf}
use Rattle.model.proofs.LeftKeys.{writes_keys}
use Rattle.listings.specs.Listings.{FindsModel}
use Rattle.listings.specs.declared.Placed.{Placed}
use Rattle.commands.specs.Held.{held, meant}
use Rattle.commands.proofs.Kept.{kept}
use Rattle.slots.specs.Layouts.{part, storage}
use Rattle.slots.specs.Records.{level_of, sizes, extents}
use Rattle.slots.specs.declared.records.TensorRecord.{TensorRecord}
use Rattle.rack_state.specs.Snapshots.{Snapshot}
use Rattle.rack_state.specs.Mirrors.{SlotMirrors, Carries}
use Rattle.rack_state.specs.declared.state.Loaded as code
use Rattle.execution.specs.Carried.{NamedIn, Shows, Ready}
use Rattle.rack_steps.proofs.Cuts.{keeps_cut, table_cut}
use Rattle.rack_steps.proofs.Prefixes.{fit_take, joined_next, Standing, standing}

-- the next command of a graph
abbrev pub next_of : {V : Type 0} → Loaded V → Command
next_of g = get_or (commands_of g) g.count (ROOT 0)

-- what was held at COMPILE
abbrev pub held_then : {V : Type 0} → Algebra V → Loaded V → ℕ → Storage V
held_then K g n = storage_of K.zero (g.slots n)

all_hold : {V : Type 0} (o : V) (slots : ℕ → Option (Slot V)) → SlotsHold o slots → AllHold o (tensors_of slots) (λ n. storage_of o (slots n))
all_hold {V} o slots h n = go (slots n) (h n)
  where
    go : (s : Option (Slot V)) → IfSome s (λ s. Holds o s.tensor (storage_of o (Some s))) → IfSome (option_map (λ s. s.tensor) s) (λ t. Holds o t (storage_of o s))
    go None k = tt
    go (Some s) k = k

some_is : {A : Type 0} (x y : A) → Some x ≡ Some y → x ≡ y
some_is x y e = cc

never : {A X : Type 0} (x : A) → None ≡ Some x → X
never x e = let z : ◌≡◌ {A = ℕ} 0 1 = cc in absurd (omega arith)

-- a level of a tensor is one of its rank
ranked : (x : TensorRecord) (es : List ℕ) (l : ℕ) → extents x ≡ es → l < length es → l < x.rank
ranked x es l e h =
    omega (arith, h, ap length e, length-map (sizes x) (λ s. s.1.extent), length-map (take x.rank x.levels) level_of, length-take x.rank x.levels)

module _ {P V : Type 0} (K : Algebra V) (reads : P → V) (rules : FormatRules) (meaning : ℕ → LevelSize → List ℕ → Level) (s : Snapshot P) where
  -- a slot that is filled shows what the book holds there
  shown : (n : ℕ) (o : Option (Slot V)) (r : Option TensorRecord) (x : TensorRecord) → SlotMirrors K reads rules meaning s n o r → r ≡ Some x
      → storage_of K.zero o ≡ storage rules meaning reads (sizes x) x.positions (part n s.sizes.level_words s.slots.words) (part n s.sizes.positions s.slots.values)
  shown n o None x h e = never x e
  shown n None (Some r) x h e = absurd h
  shown n (Some y) (Some r) x h e =
      sym h.kept_as
      ∙ ap (λ (q : TensorRecord). storage rules meaning reads (sizes q) q.positions (part n s.sizes.level_words s.slots.words) (part n s.sizes.positions s.slots.values)) (some_is r x e)

  -- a slot that the book has filled has a record, of as many levels as its tensor has extents
  filled : (n : ℕ) (o : Option (Slot V)) (r : Option TensorRecord) (Q : List ℕ → Type 0) → SlotMirrors K reads rules meaning s n o r → MatchOption (option_map (λ t. t.extents) (option_map (λ y. y.tensor) o)) ⊥ Q
      → (x : TensorRecord) × (r ≡ Some x) × ((es : List ℕ) × (extents x ≡ es) × Q es)
  filled n None r Q h k = absurd k
  filled n (Some y) None Q h k = absurd h
  filled n (Some y) (Some x) Q h k = (x, refl, (y.tensor.extents, h.extents_are, k))

  module _ (now_held : ℕ → Option (Slot V)) (mirrors : (n : ℕ) → SlotMirrors K reads rules meaning s n (now_held n) (get_or s.slots.records n None)) where
    names : (c : Command) → NamesHeld (extents_seen (tensors_of now_held)) c → NamedIn s.slots.records c
    names (ROOT out) h = tt
    names (SCAN t l r c k) h =
        let f = filled t (now_held t) (get_or s.slots.records t None) (λ es. l < length es) (mirrors t) h in
        (f.0, f.1, ranked f.0 f.2.0 l f.2.1 f.2.2)
    names (MEET a b out) h = tt
    names (JOIN a b out) h = tt
    names (ALIGN c r z out) h = tt
    names (REPEAT r z out) h = tt
    names (LOAD t r out) h =
        let f = filled t (now_held t) (get_or s.slots.records t None) (λ es. Unit {0}) (mirrors t) h in
        (f.0, f.1)
    names (MUL a b out) h = tt
    names (ADD a b out) h = tt
    names (SUM a out) h = tt
    names (WRITE d v zs ks) h = tt

    module _ (g : Loaded V) (p : code.Loaded) (carries : Carries K reads rules meaning s now_held g p) (undrained : is_drained g ≡ false) where
      -- not all commands are carried out
      pub some_left : g.count < length (commands_of g)
      some_left = let ne = eqb-false g.count (length (commands_of g)) undrained in omega (arith, carries.within, ne)

      pub next_small : Small (next_of g)
      next_small =
          All-get_or Small (commands_of g) g.count (ROOT 0) some_left
          (small_graphs (extents_seen (tensors_of g.slots)) g.line carries.accepted.0.formed carries.accepted.1).1

      -- until the graph is drained, the slots at COMPILE are those held now
      shows : Shows K reads rules meaning s.sizes.level_words s.sizes.positions s.slots (held_then K g)
      shows n x e = ap (storage_of K.zero) (carries.same undrained n) ∙ shown n (now_held n) (get_or s.slots.records n None) x (mirrors n) e

      names_now : NamesHeld (extents_seen (tensors_of now_held)) (next_of g)
      names_now =
          let then : NamesHeld (extents_seen (tensors_of g.slots)) (next_of g) =
          All-get_or (NamesHeld (extents_seen (tensors_of g.slots))) (commands_of g) g.count (ROOT 0) some_left
          (named (extents_seen (tensors_of g.slots)) g.line carries.accepted.0.formed carries.accepted.1) in
          subst (λ (f : ℕ → Option (Slot V)). NamesHeld (extents_seen (tensors_of f)) (next_of g)) (λ i n. carries.same undrained n i) then

      all_fit : AllFit K (held_then K g) (commands_of g) nothing_yet
      all_fit = well_shaped V K (tensors_of g.slots) (held_then K g) (all_hold K.zero g.slots carries.held) carries.text g.line carries.accepted

      -- what the next command finds in the areas, as far as there is room
      pub ready :
          s.sizes.stream_values ≤ 1048576 → s.sizes.places ≤ 4096
          → Ready K reads rules meaning s.sizes.level_words s.sizes.positions (length (line_of g.line).left) s.slots
          (held_then K g) (state_of K g).streams (state_of K g).table (next_of g)
          s.tapes (take s.sizes.stream_words s.words) (take s.sizes.stream_values s.values)
          (take s.sizes.places s.keys) (take s.sizes.places s.sums) s.count
      ready few_values few_places =
          record {
            slots = shows;
            levels = carries.small;
            streams =
                keeps_cut reads (state_of K g).streams s.tapes s.sizes.stream_words s.sizes.stream_values s.words s.values carries.words_fit carries.values_fit
                carries.streams;
            readable =
                runs_bounded V K (held_then K g) 0x80000000 (omega arith) carries.small (take g.count (commands_of g)) (fit_take K (held_then K g) g.count (commands_of g) nothing_yet all_fit);
            table = table_cut reads (length (line_of g.line).left) (state_of K g).table s.sizes.places s.keys s.sums s.count carries.results_fit carries.table;
            fits = fits_at K (held_then K g) (commands_of g) nothing_yet all_fit g.count (ROOT 0) some_left;
            small = next_small;
            named = names (next_of g) names_now;
            keyed = All-get_or (KeysOf (length (line_of g.line).left)) (commands_of g) g.count (ROOT 0) some_left (writes_keys g.line);
            few_values = omega (arith, length-take s.sizes.stream_values s.values);
            few_places = omega (arith, length-take s.sizes.places s.keys, length-take s.sizes.places s.sums);
          }

      -- its bytes stand at the place that the rack is at
      stands : Standing s.graph p.at (next_of g)
      stands = standing (commands_of g) g.count (ROOT 0) (0x00 ∷ [] ++ carries.rest) s.graph p.at some_left (carries.bytes ∙ append_assoc (flat_map bytes_of (commands_of g)) (0x00 ∷ []) carries.rest) carries.at

      placed : Placed
      placed = record { command = held (next_of g); next = p.at + length (bytes_of (next_of g)) }

      finds : (o : Option Placed) → FindsModel s.graph p.at o → o ≡ Some placed
      unfolding placed
      finds o h = h (next_of g) stands.rest next_small stands.within stands.stands

      pub not_missed : {X : Type 0} → FindsModel s.graph p.at None → X
      not_missed h = never placed (finds None h)

      -- so it is found there, and means what it is
      pub found : (q : Placed) → FindsModel s.graph p.at (Some q) → (meant q.command ≡ next_of g) × (q.next ≡ length (flat_map bytes_of (take (suc g.count) (commands_of g))))
      unfolding placed
      found q h =
          let is = some_is q placed (finds (Some q) h) in (
            ap (λ (x : Placed). meant x.command) is ∙ (kept (next_of g)).again next_small,
            ap (λ (x : Placed). x.next) is ∙ ap (λ n. n + length (bytes_of (next_of g))) carries.at ∙ sym (joined_next bytes_of g.count (commands_of g) (ROOT 0) some_left),
          )
