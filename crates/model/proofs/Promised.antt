-- From the central theorem to what a rack promises by its book. Assumes nothing.
use Rattle.std.proofs.Common.{◌≡◌, ℕ, suc, ◌+◌, ◌-◌, ◌≤◌, Bool, true, false, cond, List, length, IfSome, Some, None, MatchBool, Option, sym, refl, ap, ◌∙◌, subst, arith, MatchOption}
use Rattle.std.specs.List.{slice_get}
use Rattle.std.specs.Option.{option_map}
use Rattle.std.proofs.lemmas.List.{take_all}
use Rattle.std.proofs.lemmas.Bool.{eqb-true, eqb-false}
use Rattle.model.specs.Semirings.{Algebra, Laws, ZeroTest}
use Rattle.model.specs.Tensors.{Holds}
use Rattle.model.specs.Grammar.{Syntax}
use Rattle.model.specs.Reading.{line_of}
use Rattle.model.specs.Running.{nothing_yet, run, results, space}
use Rattle.model.specs.Sums.{alike}
use Rattle.model.specs.Conditions.{Accepts, Outcome, accepted, Reads, OneAnswer}
use Rattle.model.specs.Lowering.{lowered}
use Rattle.model.specs.Meaning.{AllHold, Meaning, Agreement, line_listing, extents_seen}
use Rattle.model.specs.Calls.{Call, STORE, COMPILE, STEP, READ, DROP, busy, drained, not_drained, full, Answer, compiled, stepped, listed, refused}
use Rattle.model.specs.Stores.{Sizes, FormatRules}
use Rattle.model.specs.Books.{Slot, Loaded, Book, new_book, storage_of, tensors_of, commands_of, remaining, is_drained, is_busy, after_commands, state_of, fits, compile_answer, step_answer, read_answer, drop_answer, advanced, Answers, Written, store, compile, step, read, drop, refuse}
use Rattle.model.specs.Promises.{SlotsHold, History, none, call, Reached, Promised, PromisedAfter, Promises, Agreements}

-- what every call keeps of a loaded graph
pub record Carries {V : Type 0} (K : Algebra V) (g : Loaded V) : Type 0 where
  pub hold : SlotsHold K.zero g.slots
  pub text : List ℕ
  pub accepts : Accepts (extents_seen (tensors_of g.slots)) text g.line
  pub few : g.count ≤ length (commands_of g)

pub record Sound {V : Type 0} (K : Algebra V) (b : Book V) : Type 0 where
  pub hold : SlotsHold K.zero b.slots
  pub carries : IfSome b.loaded (Carries K)

all_hold : {V : Type 0} (o : V) (slots : ℕ → Option (Slot V)) → SlotsHold o slots → AllHold o (tensors_of slots) (λ n. storage_of o (slots n))
all_hold {V} o slots h n = go (slots n) (h n)
  where
    go : (s : Option (Slot V)) → IfSome s (λ s. Holds o s.tensor (storage_of o (Some s))) → IfSome (option_map (λ s. s.tensor) s) (λ t. Holds o t (storage_of o s))
    go None k = tt
    go (Some s) k = k

module _ {V : Type 0} (K : Algebra V) (z : Sizes) (rules : FormatRules) where
  -- a step that is accepted was not the last one's
  not_last : (g : Loaded V) (n : ℕ) → Answers K z rules (record { slots = g.slots; loaded = Some g }) STEP (stepped n) → is_drained g ≡ false
  not_last g n e = go (is_drained g) (fits z (space (after_commands K g (suc g.count)))) e
    where
      go : (d f : Bool) → ◌≡◌ {A = Answer V} (stepped n) (cond d (refused drained) (cond f (stepped (remaining g - 1)) (refused (full g.count)))) → d ≡ false
      go true f h = absurd (let x : ◌≡◌ {A = ℕ} 0 1 = cc in omega arith)
      go false f h = refl

  sound_call : (b m : Book V) (c : Call V) (a : Answer V) → Answers K z rules b c a → Written b c a m → SlotsHold K.zero m.slots → Sound K b → Sound K m
  sound_call b m c a ans (store r n ls) hold s = record { hold = hold; carries = s.carries }
  sound_call b m c a ans (compile t n l reads) hold s =
      record { hold = hold; carries = record { hold = s.hold; text = t; accepts = reads; few = omega arith } }
  sound_call b m c a ans (step n) hold s = record { hold = hold; carries = go b.loaded ans s.carries }
    where
      go : (o : Option (Loaded V)) → stepped n ≡ step_answer K z o → IfSome o (Carries K) → IfSome (advanced o) (Carries K)
      go None e k = tt
      go (Some g) e k =
          let apart = eqb-false g.count (length (commands_of g)) (not_last g n e) in
          record { hold = k.hold; text = k.text; accepts = k.accepts; few = omega (arith, k.few, apart) }
  sound_call b m c a ans (read n e) hold s = s
  sound_call b m c a ans (drop n) hold s = record { hold = hold; carries = tt }
  sound_call b m c a ans (refuse asked f) hold s = s

  sound_history : (b d : Book V) (es : List (Call V × Answer V)) → History K z rules b es d → Sound K b → Sound K d
  sound_history b d es (none same) s = s
  sound_history b d es (call from m to c a rest ans w hold h) s = sound_history m to rest h (sound_call from m c a ans w hold s)

  pub sound_reached : (b : Book V) → Reached K z rules b → Sound K b
  sound_reached b r = sound_history new_book b r.0 r.1 (record { hold = λ n. tt; carries = tt })

module _ {V : Type 0} (meaning : Meaning V) (K : Algebra V) (laws : Laws K) (test : ZeroTest K) where
  -- a graph whose commands are all carried out has the final table of its line
  all_commands : (g : Loaded V) → length (commands_of g) ≤ g.count → state_of K g ≡ run K (λ n. storage_of K.zero (g.slots n)) (commands_of g) nothing_yet
  all_commands g h = ap (λ cs. run K (λ n. storage_of K.zero (g.slots n)) cs nothing_yet) (take_all g.count (commands_of g) h)

  pub drained_lists : (g : Loaded V) → Carries K g → length (commands_of g) ≤ g.count
      → results K (state_of K g).table ≡ line_listing K (tensors_of g.slots) g.line
  drained_lists g k h =
      ap (λ s. results K s.table) (all_commands g h)
      ∙ (meaning K laws test (tensors_of g.slots) (λ n. storage_of K.zero (g.slots n)) (all_hold K.zero g.slots k.hold) k.text g.line k.accepts).1

  module _ (z : Sizes) (rules : FormatRules) where
    step_promised : (g : Loaded V) (a : Answer V) → Carries K g → a ≡ step_answer K z (Some g) → Promised K g STEP a
    step_promised g a k e = go (is_drained g) refl (fits z (space (after_commands K g (suc g.count)))) e
      where
        go : (d : Bool) → is_drained g ≡ d → (f : Bool) → a ≡ cond d (refused drained) (cond f (stepped (remaining g - 1)) (refused (full g.count))) → Promised K g STEP a
        go true q f h =
            let same = eqb-true g.count (length (commands_of g)) q in
            (λ _. omega arith, λ _. h, λ n j. absurd (let x : ◌≡◌ {A = ℕ} 0 1 = cc in omega arith))
        go false q true h =
            let apart = eqb-false g.count (length (commands_of g)) q in (
              λ j. absurd (let x : ◌≡◌ {A = ℕ} 0 1 = cc in omega arith),
              λ j. absurd (omega (arith, k.few, apart)),
              λ n j. let x : n ≡ remaining g - 1 = cc in omega (arith, k.few, apart),
            )
        go false q false h =
            let apart = eqb-false g.count (length (commands_of g)) q in (
              λ j. absurd (let x : ◌≡◌ {A = ℕ} 0 1 = cc in omega arith),
              λ j. absurd (omega (arith, k.few, apart)),
              λ n j. absurd (let x : ◌≡◌ {A = ℕ} 0 1 = cc in omega arith),
            )

    read_promised : (g : Loaded V) (n : ℕ) (a : Answer V) → Carries K g → a ≡ read_answer K n (Some g) → Promised K g (READ n) a
    read_promised g n a k e = go (is_drained g) refl e
      where
        go : (d : Bool) → is_drained g ≡ d → a ≡ cond d (listed (slice_get (results K (state_of K g).table) n)) (refused not_drained) → Promised K g (READ n) a
        go true q h =
            let same = eqb-true g.count (length (commands_of g)) q in (
              λ j. absurd (let x : ◌≡◌ {A = ℕ} 0 1 = cc in omega arith),
              λ j. absurd (omega arith),
              λ _. h ∙ ap (λ t. listed (slice_get t n)) (drained_lists g k (omega arith)),
            )
        go false q h =
            let apart = eqb-false g.count (length (commands_of g)) q in
            (λ _. omega (arith, k.few, apart), λ _. h, λ j. absurd (omega (arith, k.few, apart)))

    call_promised : (g : Loaded V) (b : Book V) (c : Call V) (a : Answer V) → b.loaded ≡ Some g → Carries K g → Answers K z rules b c a → Promised K g c a
    call_promised g b (STORE r) a e k ans = tt
    call_promised g b (COMPILE s) a e k ans = tt
    call_promised g b STEP a e k ans = step_promised g a k (ans ∙ ap (step_answer K z) e)
    call_promised g b (READ n) a e k ans = read_promised g n a k (ans ∙ ap (read_answer K n) e)
    call_promised g b DROP a e k ans = ans ∙ ap drop_answer e

    count_promised : (o : Option (Loaded V)) → IfSome o (Carries K) → IfSome o (λ g. g.count + remaining g ≡ length (commands_of g))
    count_promised None k = tt
    count_promised (Some g) k = omega (arith, k.few)

    compiled_same : (b : Book V) (s : List ℕ) (n : ℕ) (l : Syntax) (reads : Accepts (extents_seen (tensors_of b.slots)) s l) → OneAnswer
        → Answers K z rules b (COMPILE s) (compiled n) → length (lowered (line_of l)) ≡ n
    compiled_same b s n l reads one ans = go (is_busy b.loaded) ans
      where
        from : (o : Outcome) → Reads (extents_seen (tensors_of b.slots)) s o → ◌≡◌ {A = Answer V} (compiled n) (compile_answer o) → length (lowered (line_of l)) ≡ n
        from o r e =
            let same : accepted l ≡ o = one (extents_seen (tensors_of b.slots)) s (accepted l) o reads r in
            let e' : ◌≡◌ {A = Answer V} (compiled n) (compiled (length (lowered (line_of l)))) = e ∙ ap compile_answer (sym same) in
            cc

        go : (d : Bool) → MatchBool d (◌≡◌ {A = Answer V} (compiled n) (refused busy)) ((o : Outcome) × Reads (extents_seen (tensors_of b.slots)) s o × (◌≡◌ {A = Answer V} (compiled n) (compile_answer o))) → length (lowered (line_of l)) ≡ n
        go true h = absurd (let x : ◌≡◌ {A = ℕ} 0 1 = cc in omega arith)
        go false h = from h.0 h.1 h.2

    after_promised : OneAnswer → (b m : Book V) (c : Call V) (a : Answer V) → IfSome b.loaded (Carries K) → Answers K z rules b c a → Written b c a m → PromisedAfter K c a m.loaded
    after_promised one b m c a k ans (store r n ls) = tt
    after_promised one b m c a k ans (compile s n l reads) = λ i e. let same = compiled_same b s n l reads one ans in let x : n ≡ i = cc in (omega arith, refl)
    after_promised one b m c a k ans (step n) = λ i e. go b.loaded i e k ans
      where
        go : (o : Option (Loaded V)) (i : ℕ) → ◌≡◌ {A = Answer V} (stepped n) (stepped i) → IfSome o (Carries K) → ◌≡◌ {A = Answer V} (stepped n) (step_answer K z o) → MatchOption (advanced o) ⊥ (λ h. remaining h ≡ i)
        go None i e k' h = absurd (let x : ◌≡◌ {A = ℕ} 0 1 = cc in omega arith)
        go (Some g) i e k' h = let p = step_promised g (stepped n) k' h in let q = p.2 i e in omega arith
    after_promised one b m c a k ans (read n e) = tt
    after_promised one b m c a k ans (drop n) = tt
    after_promised one b m STEP a k ans (refuse asked f) = λ i e. absurd (let x : ◌≡◌ {A = ℕ} 0 1 = cc in omega arith)
    after_promised one b m (COMPILE s) a k ans (refuse asked f) = λ i e. absurd (let x : ◌≡◌ {A = ℕ} 0 1 = cc in omega arith)
    after_promised one b m (STORE r) a k ans (refuse asked f) = tt
    after_promised one b m (READ n) a k ans (refuse asked f) = tt
    after_promised one b m DROP a k ans (refuse asked f) = tt

pub promises : (V : Type 0) → Meaning V → OneAnswer → Promises V
promises V meaning one K laws test z rules b reached =
    let s = sound_reached K z rules b reached in (
      count_promised meaning K laws test z rules b.loaded s.carries,
      λ c a ans. (go b.loaded refl s.carries c a ans, λ m w. after_promised meaning K laws test z rules one b m c a s.carries ans w),
    )
  where
    go : (o : Option (Loaded V)) → b.loaded ≡ o → IfSome o (Carries K) → (c : Call V) (a : Answer V) → Answers K z rules b c a → IfSome o (λ g. Promised K g c a)
    go None e k c a ans = tt
    go (Some g) e k c a ans = call_promised meaning K laws test z rules g b c a e k ans

pub agreements : (V : Type 0) → Meaning V → Agreement V → Agreements V
agreements V meaning agreement K laws test z y rules others b d rb rd g h eg eh dg dh left alike agree n a e answers answered =
    let cg : Carries K g = subst (λ o. IfSome o (Carries K)) eg (sound_reached K z rules b rb).carries in
    let ch : Carries K h = subst (λ o. IfSome o (Carries K)) eh (sound_reached K y others d rd).carries in
    let lg = all_commands meaning K laws test g (omega arith) in
    let lh = all_commands meaning K laws test h (omega arith) in
    let pg = (call_promised meaning K laws test z rules g b (READ n) a eg cg answers).2 dg in
    let ph = (call_promised meaning K laws test y others h d (READ n) e eh ch answered).2 dh in
    let same =
    agreement K laws test (tensors_of g.slots) (tensors_of h.slots) (λ n. storage_of K.zero (g.slots n)) (λ n. storage_of K.zero (h.slots n))
    (all_hold K.zero g.slots cg.hold) (all_hold K.zero h.slots ch.hold) cg.text ch.text g.line h.line cg.accepts ch.accepts left alike agree in
    let mg = drained_lists meaning K laws test g cg (omega arith) in
    let mh = drained_lists meaning K laws test h ch (omega arith) in
    pg ∙ ap (λ t. listed (slice_get t n)) (sym mg ∙ ap (λ s. results K s.table) lg ∙ same ∙ sym (ap (λ s. results K s.table) lh) ∙ mh) ∙ sym ph
