-- A rack that mirrors a book, after its next command: it mirrors the book a command further on, or the command had no room. Assumes nothing.
use Rattle.std.proofs.Common.{◌≡◌, ℕ, suc, ◌<◌, ◌≤◌, Bool, true, false, ltb, ◌⊎◌, List, map, length, get_or, take, Some, None, Option, sym, ap, ◌∙◌, subst, inl, inr, ⊎_elim, arith}
use Rattle.std.proofs.lemmas.List.{length-take}
use Rattle.std.proofs.lemmas.Bool.{lt-ltb, le-ltb, or_from, or_left, or_right, not_from_true, not_from_false}
use Rattle.model.specs.Semirings.{Algebra}
use Rattle.model.specs.Fibers.{Level}
use Rattle.model.specs.Formats.{LevelSize}
use Rattle.model.specs.Commands.{Command, ROOT}
use Rattle.model.specs.Running.{State, Space, nothing_yet, step, space}
use Rattle.model.specs.Reading.{line_of}
use Rattle.model.specs.Stores.{FormatRules, Sizes}
use Rattle.model.specs.Books.{Slot, Loaded, commands_of, is_drained, after_commands, state_of, fits}
use Rattle.model.proofs.RunGrowth.{run_next}
use Rattle.listings.specs.Listings.{FindsModel}
use Rattle.listings.specs.declared.Placed.{Placed}
use Rattle.commands.specs.Held.{meant}
use Rattle.streams.specs.Held.{Keeps}
use Rattle.rack_state.specs.Snapshots.{Snapshot}
use Rattle.rack_state.specs.Mirrors.{SlotMirrors, TableHeld, Carries}
use Rattle.rack_state.specs.declared.state.Loaded as code
use Rattle.rack_steps.specs.Working.{Working, working_of, CarriedWithin}
use Rattle.rack_steps.proofs.Cuts.{keeps_whole, table_whole}
use Rattle.rack_steps.proofs.Finding.{next_of, held_then, some_left, ready, found}

roomy : (z : Sizes) (u : Space) → u.words ≤ z.stream_words → u.values ≤ z.stream_values → u.keys ≤ z.places → fits z u ≡ true
roomy z u a b c =
    not_from_false _
    (or_from (ltb z.stream_words u.words) _ (le-ltb z.stream_words u.words a)
    (or_from (ltb z.stream_values u.values) _ (le-ltb z.stream_values u.values b) (le-ltb z.places u.keys c)))

crowded : (z : Sizes) (u : Space) → (z.stream_words < u.words) ⊎ ((z.stream_values < u.values) ⊎ (z.places < u.keys)) → fits z u ≡ false
crowded z u h =
    not_from_true _
    (⊎_elim
    (λ a. or_left (ltb z.stream_words u.words) _ (lt-ltb z.stream_words u.words a))
    (λ more.
    or_right (ltb z.stream_words u.words) _
    (⊎_elim
    (λ b. or_left (ltb z.stream_values u.values) _ (lt-ltb z.stream_values u.values b))
    (λ c. or_right (ltb z.stream_values u.values) _ (lt-ltb z.places u.keys c))
    more))
    h)

-- a rack with other areas in use and another place in its graph
abbrev pub after : {P : Type 0} → Snapshot P → Option code.Loaded → Working P → Snapshot P
after s l u =
    record {
      sizes = s.sizes;
      slots = s.slots;
      graph = s.graph;
      commands = s.commands;
      loaded = l;
      tapes = u.tapes;
      words = u.words;
      values = u.values;
      keys = u.keys;
      sums = u.sums;
      count = u.count;
    }

abbrev pub one_on : {V : Type 0} → Loaded V → Loaded V
one_on g = record { line = g.line; slots = g.slots; count = suc g.count }

module _ {P V : Type 0} (K : Algebra V) (reads : P → V) (rules : FormatRules) (meaning : ℕ → LevelSize → List ℕ → Level) (s : Snapshot P) where
  -- what the step of a command leaves within the room of a rack
  abbrev pub Stepped : Command → Bool → Working P → Type 0
  Stepped c r u =
      CarriedWithin K reads rules meaning s.sizes.stream_words s.sizes.stream_values s.sizes.places s.sizes.level_words s.sizes.positions s.slots c (working_of s) r u

  module _
      (now_held : ℕ → Option (Slot V)) (mirrors : (n : ℕ) → SlotMirrors K reads rules meaning s n (now_held n) (get_or s.slots.records n None))
      (g : Loaded V) (p : code.Loaded) (carries : Carries K reads rules meaning s now_held g p) (undrained : is_drained g ≡ false)
      (q : Placed) (stands : FindsModel s.graph p.at (Some q))
      (few_values : s.sizes.stream_values ≤ 1048576) (few_places : s.sizes.places ≤ 4096) (u : Working P)
    where
      left : g.count < length (commands_of g)
      left = some_left K reads rules meaning s now_held mirrors g p carries undrained

      -- the state a command further on
      next_state : after_commands K g (suc g.count) ≡ step K (held_then K g) (next_of g) (state_of K g)
      next_state = run_next K (held_then K g) (commands_of g) g.count (ROOT 0) nothing_yet left

      pub advanced : Stepped (meant q.command) true u → (l : code.Loaded) → l.at ≡ q.next → l.done ≡ suc p.done → l.left ≡ p.left
          → Carries K reads rules meaning (after s (Some l) u) now_held (one_on g) l × (fits s.sizes (space (after_commands K g (suc g.count))) ≡ true)
      advanced carried l at done same_left =
          let f = found K reads rules meaning s now_held mirrors g p carries undrained q stands in
          let c : Stepped (next_of g) true u = subst (λ (x : Command). Stepped x true u) f.0 carried in
          let m = length (line_of g.line).left in
          let o =
          c.front.done (held_then K g) (state_of K g).streams (state_of K g).table m
          (ready K reads rules meaning s now_held mirrors g p carries undrained few_values few_places) in
          let used : u.tapes.used ≤ s.sizes.stream_words = omega (arith, c.front.words.1, length-take s.sizes.stream_words s.words) in
          let taken : u.tapes.taken ≤ s.sizes.stream_values = omega (arith, c.front.values.1, length-take s.sizes.stream_values s.values) in
          let now = step K (held_then K g) (next_of g) (state_of K g) in
          let keeps = keeps_whole reads now.streams u.tapes s.sizes.stream_words s.sizes.stream_values u.words u.values used taken o.0 in
          let table = table_whole reads m now.table s.sizes.places u.keys u.sums u.count o.1 in
          let here = sym next_state in (
            record {
              text = carries.text;
              accepted = carries.accepted;
              held = carries.held;
              small = carries.small;
              same = λ h. carries.same undrained;
              rest = carries.rest;
              bytes = carries.bytes;
              commands = carries.commands;
              within = left;
              done = done ∙ ap suc carries.done;
              at = at ∙ f.1;
              left = same_left ∙ carries.left;
              streams = subst (λ (x : State V). Keeps x.streams u.tapes u.words (map reads (take u.tapes.taken u.values))) here keeps;
              words_fit = used;
              values_fit = taken;
              table = subst (λ (x : State V). TableHeld reads m x.table u.keys u.sums u.count) here table.0;
              results_fit = table.1;
            },
            ap (λ (x : State V). fits s.sizes (space x)) next_state
                ∙ roomy s.sizes (space now) (omega (arith, keeps.used, used)) (omega (arith, keeps.taken, taken)) (omega (arith, table.0.size, table.1)),
          )

      -- refused, the command had no room
      pub no_room : Stepped (meant q.command) false u
          → s.sizes.stream_words ≤ length s.words → s.sizes.stream_values ≤ length s.values → s.sizes.places ≤ length s.keys → s.sizes.places ≤ length s.sums
          → fits s.sizes (space (after_commands K g (suc g.count))) ≡ false
      no_room carried words_long values_long keys_long sums_long =
          let f = found K reads rules meaning s now_held mirrors g p carries undrained q stands in
          let c : Stepped (next_of g) false u = subst (λ (x : Command). Stepped x false u) f.0 carried in
          let o =
          c.front.done (held_then K g) (state_of K g).streams (state_of K g).table (length (line_of g.line).left)
          (ready K reads rules meaning s now_held mirrors g p carries undrained few_values few_places) in
          let now = step K (held_then K g) (next_of g) (state_of K g) in
          ap (λ (x : State V). fits s.sizes (space x)) next_state
          ∙ crowded s.sizes (space now)
          (⊎_elim
          (λ a. inl (omega (arith, a, length-take s.sizes.stream_words s.words)))
          (⊎_elim
          (λ b. inr (inl (omega (arith, b, length-take s.sizes.stream_values s.values))))
          (λ d. inr (inr (omega (arith, d, length-take s.sizes.places s.keys, length-take s.sizes.places s.sums)))))
          o)
