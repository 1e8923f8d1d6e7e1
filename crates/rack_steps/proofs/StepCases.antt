-- What a STEP does, case by case: what stays for every input, and what it answers by every book that the rack mirrors. Assumes nothing.
use Rattle.std.proofs.Common.{◌≡◌, ℕ, suc, ◌-◌, ◌<◌, ◌≤◌, true, false, cond, List, length, get_or, Some, None, Option, sym, refl, ap, ◌∙◌, subst, arith}
use Rattle.std.proofs.lemmas.Bool.{eq-eqb, ne_eqb, cond-true, cond-false}
use Rattle.model.specs.Semirings.{Algebra}
use Rattle.model.specs.Fibers.{Level}
use Rattle.model.specs.Formats.{LevelSize}
use Rattle.model.specs.Running.{space}
use Rattle.model.specs.Stores.{FormatRules, Sizes}
use Rattle.model.specs.Calls.{STEP, Fault, no_graph, drained, full, Answer, stepped, refused}
use Rattle.model.specs.Books.{Slot, Loaded, Book, commands_of, remaining, is_drained, after_commands, fits, step_answer}
use Rattle.model.specs.Books as book
use Rattle.listings.specs.Listings.{FindsModel}
use Rattle.listings.specs.declared.Placed.{Placed}
use Rattle.commands.specs.Held.{meant}
use Rattle.streams.specs.Held.{Onward}
use Rattle.slots.specs.declared.records.TensorRecord.{TensorRecord}
use Rattle.rack_state.specs.Snapshots.{Snapshot}
use Rattle.rack_state.specs.Mirrors.{SlotMirrors, Carries, GraphMirrors, Mirrors}
use Rattle.rack_state.specs.Does.{Does}
use Rattle.rack_state.specs.declared.state.Loaded as code
use Rattle.rack_steps.specs.Working.{Working}
use Rattle.rack_steps.proofs.Cuts.{drop_whole, same_whole, onward_whole}
use Rattle.rack_steps.proofs.Finding.{not_missed}
use Rattle.rack_steps.proofs.Advancing.{after, Stepped, advanced, no_room}

-- what a step answers, once it is known whether the graph is drained and whether the next command fits
module _ {V : Type 0} (K : Algebra V) (z : Sizes) (g : Loaded V) where
  pub answers_drained : is_drained g ≡ true → step_answer K z (Some g) ≡ refused drained
  answers_drained d = cond-true (is_drained g) _ _ d

  answers_undrained : is_drained g ≡ false → step_answer K z (Some g) ≡ cond (fits z (space (after_commands K g (suc g.count)))) (stepped (remaining g - 1)) (refused (full g.count))
  answers_undrained d = cond-false (is_drained g) _ _ d

  pub answers_stepped : is_drained g ≡ false → fits z (space (after_commands K g (suc g.count))) ≡ true → step_answer K z (Some g) ≡ stepped (remaining g - 1)
  answers_stepped d f = answers_undrained d ∙ cond-true (fits z (space (after_commands K g (suc g.count)))) _ _ f

  pub answers_full : is_drained g ≡ false → fits z (space (after_commands K g (suc g.count))) ≡ false → step_answer K z (Some g) ≡ refused (full g.count)
  answers_full d f = answers_undrained d ∙ cond-false (fits z (space (after_commands K g (suc g.count)))) _ _ f

onward_none : {X : Type 0} (n : ℕ) (xs : List X) → Onward n n xs xs
onward_none n xs = record { more = omega arith; old = refl; free = refl }

module _ {P V : Type 0} (K : Algebra V) (reads : P → V) (rules : FormatRules) (meaning : ℕ → LevelSize → List ℕ → Level) (s : Snapshot P) where
  -- a refusal that the book answers too, with nothing changed
  refuses : (f : Fault) → ((b : Book V) → Mirrors K reads rules meaning b s → step_answer K s.sizes b.loaded ≡ refused f) → Does K reads rules meaning STEP s (refused f) s
  refuses f h =
      record {
        unchanged = λ e is. refl;
        stays =
            record {
              sizes = refl;
              slots = refl;
              graph = refl;
              commands = refl;
              words = onward_none s.tapes.used s.words;
              values = onward_none s.tapes.taken s.values;
              keys = refl;
              sums = refl;
            };
        by_book = λ b m. (sym (h b m), (b, book.refuse STEP f, m));
      }

  -- no graph is loaded
  pub refuses_empty : s.loaded ≡ None → Does K reads rules meaning STEP s (refused no_graph) s
  refuses_empty e = refuses no_graph (λ b m. go b.slots b.loaded (subst (GraphMirrors K reads rules meaning s b.slots b.loaded) e m.graph))
    where
      go : (slots : ℕ → Option (Slot V)) (l : Option (Loaded V)) → GraphMirrors K reads rules meaning s slots l None → step_answer K s.sizes l ≡ refused no_graph
      go slots None h = refl
      go slots (Some g) h = absurd h

  module _ (p : code.Loaded) (loaded : s.loaded ≡ Some p) where
    -- by the graph of the book
    by_graph :
        (f : Fault)
        → ((slots : ℕ → Option (Slot V)) → ((n : ℕ) → SlotMirrors K reads rules meaning s n (slots n) (get_or s.slots.records n None)) → (g : Loaded V)
        → Carries K reads rules meaning s slots g p → step_answer K s.sizes (Some g) ≡ refused f)
        → Does K reads rules meaning STEP s (refused f) s
    by_graph f h = refuses f (λ b m. go b.slots m.slots b.loaded (subst (GraphMirrors K reads rules meaning s b.slots b.loaded) loaded m.graph))
      where
        go : (slots : ℕ → Option (Slot V)) → ((n : ℕ) → SlotMirrors K reads rules meaning s n (slots n) (get_or s.slots.records n None)) → (l : Option (Loaded V))
            → GraphMirrors K reads rules meaning s slots l (Some p) → step_answer K s.sizes l ≡ refused f
        go slots mirrors None k = absurd k
        go slots mirrors (Some g) k = h slots mirrors g k

    -- all commands are carried out
    pub refuses_drained : s.commands ≤ p.done → Does K reads rules meaning STEP s (refused drained) s
    refuses_drained all =
        by_graph drained
        (λ slots mirrors g k.
        answers_drained K s.sizes g (eq-eqb g.count (length (commands_of g)) (omega (arith, k.done, k.commands, k.within))))

    module _ (more : p.done < s.commands) where
      undrained : (slots : ℕ → Option (Slot V)) (g : Loaded V) → Carries K reads rules meaning s slots g p → is_drained g ≡ false
      undrained slots g k = ne_eqb g.count (length (commands_of g)) (λ e. omega (arith, e, k.done, k.commands))

      -- where no command stands there is no book
      pub refuses_missed : FindsModel s.graph p.at None → Does K reads rules meaning STEP s (refused (full p.done)) s
      refuses_missed h = by_graph (full p.done) (λ slots mirrors g k. not_missed K reads rules meaning s slots mirrors g p k (undrained slots g k) h)

      module _
          (q : Placed) (stands : FindsModel s.graph p.at (Some q))
          (few_values : s.sizes.stream_values ≤ 1048576) (few_places : s.sizes.places ≤ 4096) (u : Working P)
        where
          -- the command finds no room
          pub refuses_full :
              Stepped K reads rules meaning s (meant q.command) false u
              → s.sizes.stream_words ≤ length s.words → s.sizes.stream_values ≤ length s.values → s.sizes.places ≤ length s.keys → s.sizes.places ≤ length s.sums
              → Does K reads rules meaning STEP s (refused (full p.done)) (after s s.loaded u)
          refuses_full c words_long values_long keys_long sums_long =
              subst (λ (t : Snapshot P). Does K reads rules meaning STEP s (refused (full p.done)) t) (sym same)
              (by_graph (full p.done)
              (λ slots mirrors g k.
              answers_full K s.sizes g (undrained slots g k)
              (no_room K reads rules meaning s slots mirrors g p k (undrained slots g k) q stands few_values few_places u c words_long values_long keys_long sums_long)
              ∙ ap (λ (n : ℕ). refused (full n)) (sym k.done)))
            where
              same : after s s.loaded u ≡ s
              same i =
                  record {
                    sizes = s.sizes;
                    slots = s.slots;
                    graph = s.graph;
                    commands = s.commands;
                    loaded = s.loaded;
                    tapes = c.front.words.0 i;
                    words = same_whole s.sizes.stream_words s.words u.words c.front.words.1 c.past.words i;
                    values = same_whole s.sizes.stream_values s.values u.values c.front.values c.past.values i;
                    keys = same_whole s.sizes.places s.keys u.keys c.front.keys c.past.keys i;
                    sums = same_whole s.sizes.places s.sums u.sums c.front.sums c.past.sums i;
                    count = c.front.counted refl i;
                  }

          -- the command is carried out
          pub steps :
              Stepped K reads rules meaning s (meant q.command) true u → (l : code.Loaded) → l.at ≡ q.next → l.done ≡ suc p.done → l.left ≡ p.left
              → (n : ℕ) → n ≡ s.commands - suc p.done → Does K reads rules meaning STEP s (stepped n) (after s (Some l) u)
          steps c l at done left n rest =
              record {
                unchanged = λ f is. never f is;
                stays =
                    record {
                      sizes = refl;
                      slots = refl;
                      graph = refl;
                      commands = refl;
                      words = onward_whole s.sizes.stream_words s.tapes.used u.tapes.used s.words u.words c.front.words.0 c.front.words.1 c.past.words;
                      values =
                          onward_whole s.sizes.stream_values s.tapes.taken u.tapes.taken s.values u.values c.front.values.0 c.front.values.1 c.past.values;
                      keys = drop_whole u.count s.sizes.places s.keys u.keys c.front.keys c.past.keys;
                      sums = drop_whole u.count s.sizes.places s.sums u.sums c.front.sums c.past.sums;
                    };
                by_book = λ b m.
                    let k = go b.slots m.slots b.loaded (subst (GraphMirrors K reads rules meaning s b.slots b.loaded) loaded m.graph) in (
                      sym k.0,
                      (
                        record { slots = b.slots; loaded = book.advanced b.loaded },
                        book.step n,
                        record { slots = λ i. kept i (b.slots i) (get_or s.slots.records i None) (m.slots i); held = m.held; small = m.small; graph = k.1 },
                      ),
                    );
              }
            where
              never : (f : Fault) {X : Type 0} → ◌≡◌ {A = Answer V} (stepped n) (refused f) → X
              never f e = let z : ◌≡◌ {A = ℕ} 0 1 = cc in absurd (omega arith)

              -- the slots are as they were
              kept : (i : ℕ) (o : Option (Slot V)) (r : Option TensorRecord) → SlotMirrors K reads rules meaning s i o r → SlotMirrors K reads rules meaning (after s (Some l) u) i o r
              kept i None None h = tt
              kept i None (Some r) h = absurd h
              kept i (Some x) None h = absurd h
              kept i (Some x) (Some r) h = record { extents_are = h.extents_are; kept_as = h.kept_as }

              go : (slots : ℕ → Option (Slot V)) → ((i : ℕ) → SlotMirrors K reads rules meaning s i (slots i) (get_or s.slots.records i None)) → (o : Option (Loaded V))
                  → GraphMirrors K reads rules meaning s slots o (Some p)
                  → (step_answer K s.sizes o ≡ stepped n) × GraphMirrors K reads rules meaning (after s (Some l) u) slots (book.advanced o) (Some l)
              go slots mirrors None k = absurd k
              go slots mirrors (Some g) k =
                  let d = undrained slots g k in
                  let a = advanced K reads rules meaning s slots mirrors g p k d q stands few_values few_places u c l at done left in
                  let is : remaining g - 1 ≡ n = omega (arith, rest, k.done, k.commands) in
                  (answers_stepped K s.sizes g d a.1 ∙ ap (λ (i : ℕ). stepped i) is, a.0)
