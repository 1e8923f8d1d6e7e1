-- Areas that are lent in parts and come back: what holds of the parts holds of the areas. Assumes nothing.
use Rattle.std.proofs.Common.{◌≡◌, ℕ, ◌+◌, ◌-◌, ◌≤◌, Bool, true, false, true≢false, List, ◌++◌, Ok, Err, Result, is_ok, is_err, refl, length, take, drop, vec_items, vec_len, Vec, sym, ap, ◌∙◌, subst, arith}
use Rattle.std.specs.Vec.{with_items}
use Rattle.std.specs.declared.alloc.Global.{Global}
use Rattle.std.proofs.lemmas.List.{take_at, drop_at, length-take-le, with_items_is, length-append, length-drop}
use Rattle.model.specs.Semirings.{Algebra}
use Rattle.model.specs.Fibers.{Level}
use Rattle.model.specs.Formats.{LevelSize}
use Rattle.model.specs.Commands.{Command}
use Rattle.model.specs.Stores.{Sizes, FormatRules}
use Rattle.slots.specs.Areas.{SlotState}
use Rattle.results.specs.declared.key.ResultKey.{ResultKey}
use Rattle.slots.specs.declared.areas.SlotSizes.{SlotSizes}
use Rattle.rack_state.specs.Snapshots.{Snapshot}
use Rattle.rack_state.specs.declared.areas.ResultAreas.{ResultAreas}
use Rattle.rack_state.specs.declared.areas.StreamAreas.{StreamAreas}
use Rattle.rack_steps.specs.Working.{Working, working, working_in, fronts, CarriedOut, CarriedWithin}

-- an area whose front was lent, and is now of xs
abbrev pub restored : {X : Type 0} → ℕ → List X → List X → List X
restored m area xs = xs ++ drop (m - 0) area

long : {X : Type 0} (m : ℕ) (area xs : List X) → m ≤ length area → length xs ≡ length (take (m - 0) area) → length xs ≡ m
long m area xs fit same =
    let is : m - 0 ≡ m = omega arith in
    same ∙ ap (λ (n : ℕ). length (take n area)) is ∙ length-take-le m area fit

-- its front is xs, and past that it is as it was
front_is : {X : Type 0} (m : ℕ) (area xs : List X) → m ≤ length area → length xs ≡ length (take (m - 0) area) → take m (restored m area xs) ≡ xs
front_is m area xs fit same = take_at xs (drop (m - 0) area) m (long m area xs fit same)

past_is : {X : Type 0} (m : ℕ) (area xs : List X) → m ≤ length area → length xs ≡ length (take (m - 0) area) → drop m (restored m area xs) ≡ drop m area
past_is m area xs fit same =
    let is : m - 0 ≡ m = omega arith in
    drop_at xs (drop (m - 0) area) m (long m area xs fit same) ∙ ap (λ (n : ℕ). drop n area) is

-- it is as long as it was
pub whole : {X : Type 0} (m : ℕ) (area xs : List X) → m ≤ length area → length xs ≡ length (take (m - 0) area) → length (restored m area xs) ≡ length area
whole m area xs fit same =
    let front = long m area xs fit same in
    length-append xs (drop (m - 0) area) ∙ (let e : length xs + length (drop (m - 0) area) ≡ length area = omega (arith, front, length-drop (m - 0) area) in e)

module _ {P V : Type 0} (K : Algebra V) (reads : P → V) (rules : FormatRules) (meaning : ℕ → LevelSize → List ℕ → Level) (L N : ℕ) (s : SlotState P) (c : Command) (r : Bool) where
  -- fronts that were lent
  pub within : (m k n : ℕ) (w x : Working P)
      → m ≤ length w.words → k ≤ length w.values → n ≤ length w.keys → n ≤ length w.sums
      → length x.words ≡ length (take (m - 0) w.words) → length x.values ≡ length (take (k - 0) w.values)
      → length x.keys ≡ length (take (n - 0) w.keys) → length x.sums ≡ length (take (n - 0) w.sums)
      → CarriedOut K reads rules meaning L N s c (fronts (m - 0) (k - 0) (n - 0) w) r x
      → CarriedWithin K reads rules meaning m k n L N s c w r
      (working x.tapes (restored m w.words x.words) (restored k w.values x.values) (restored n w.keys x.keys) (restored n w.sums x.sums) x.count)
  within m k n w x fw fv fk fs lw lv lk ls carried =
      record {
        front =
            subst (λ (y : Working P). CarriedOut K reads rules meaning L N s c (fronts m k n w) r y)
            (λ i.
            working x.tapes (sym (front_is m w.words x.words fw lw) i) (sym (front_is k w.values x.values fv lv) i)
            (sym (front_is n w.keys x.keys fk lk) i) (sym (front_is n w.sums x.sums fs ls) i) x.count)
            (subst (λ (y : Working P). CarriedOut K reads rules meaning L N s c y r x) (λ i. fronts (none m i) (none k i) (none n i) w) carried);
        past =
            record {
              words = past_is m w.words x.words fw lw;
              values = past_is k w.values x.values fv lv;
              keys = past_is n w.keys x.keys fk lk;
              sums = past_is n w.sums x.sums fs ls;
            };
      }
    where
      none : (a : ℕ) → a - 0 ≡ a
      none a = omega arith

-- the areas of a rack that were lent whole
module _ {P V : Type 0} (K : Algebra V) (reads : P → V) (rules : FormatRules) (meaning : ℕ → LevelSize → List ℕ → Level) (L N : ℕ) (s : SlotState P) (a : StreamAreas P) (b : ResultAreas P) (c : Command) (r : Bool) where
  pub lent : (words : List ℕ) (values : List P) (keys : List ResultKey) (sums : List P) (x : Working P)
      → words ≡ vec_items a.words → values ≡ vec_items a.values → keys ≡ vec_items b.keys → sums ≡ vec_items b.sums
      → length x.words ≡ length words → length x.values ≡ length values → length x.keys ≡ length keys → length x.sums ≡ length sums
      → CarriedWithin K reads rules meaning a.word_room a.value_room b.places L N s c (working a.tapes words values keys sums b.count) r x
      → CarriedWithin K reads rules meaning a.word_room a.value_room b.places L N s c (working_in a b) r
      (working x.tapes (vec_items (with_items a.words x.words)) (vec_items (with_items a.values x.values))
      (vec_items (with_items b.keys x.keys)) (vec_items (with_items b.sums x.sums)) x.count)
  lent words values keys sums x iw iv ik is lw lv lk ls carried =
      subst (λ (y : Working P). CarriedWithin K reads rules meaning a.word_room a.value_room b.places L N s c (working_in a b) r y)
      (λ i.
      working x.tapes (sym (items a.words words x.words iw lw) i) (sym (items a.values values x.values iv lv) i)
      (sym (items b.keys keys x.keys ik lk) i) (sym (items b.sums sums x.sums is ls) i) x.count)
      (subst
      (λ (y : Working P). CarriedWithin K reads rules meaning a.word_room a.value_room b.places L N s c y r x)
      (λ i. working a.tapes (iw i) (iv i) (ik i) (is i) b.count) carried)
    where
      items : {X : Type 0} (area : Vec X Global) (xs ys : List X) → xs ≡ vec_items area → length ys ≡ length xs → vec_items (with_items area ys) ≡ ys
      items area xs ys was long = with_items_is area ys (long ∙ ap length was ∙ sym area.ok.0)

-- as much room as there is
pub room_in : {X : Type 0} (room : ℕ) (area : Vec X Global) (xs : List X) → xs ≡ vec_items area → room ≤ vec_len area → room ≤ length xs
room_in room area xs is fits = omega (arith, ap length is, area.ok.0, fits)

-- what was not carried out, and what was
pub refused : {T E : Type 0} (r : Result T E) (b : Bool) → b ≡ is_err r → b ≡ true → is_ok r ≡ false
refused (Ok x) b is h = absurd (true≢false (sym h ∙ is))
refused (Err e) b is h = refl

pub done : {T E : Type 0} (r : Result T E) (b : Bool) → b ≡ is_err r → b ≡ false → is_ok r ≡ true
done (Ok x) b is h = refl
done (Err e) b is h = absurd (true≢false (sym is ∙ h))

-- a state with its sizes said anew
abbrev pub in_sizes : {P : Type 0} → Snapshot P → Sizes → Snapshot P
in_sizes s z =
    record {
      sizes = z;
      slots = s.slots;
      graph = s.graph;
      commands = s.commands;
      loaded = s.loaded;
      tapes = s.tapes;
      words = s.words;
      values = s.values;
      keys = s.keys;
      sums = s.sums;
      count = s.count;
    }

-- the room in the areas is what it was
abbrev pub same_room : {P : Type 0} (z : SlotSizes) (a b : StreamAreas P) (r t : ResultAreas P) → (b.word_room ≡ a.word_room) × (b.value_room ≡ a.value_room) × (t.places ≡ r.places)
    → ◌≡◌ {A = Sizes} (record { positions = z.positions; level_words = z.level_words; stream_words = a.word_room; stream_values = a.value_room; places = r.places })
    (record { positions = z.positions; level_words = z.level_words; stream_words = b.word_room; stream_values = b.value_room; places = t.places })
same_room z a b r t e = λ i. record { positions = z.positions; level_words = z.level_words; stream_words = sym e.0 i; stream_values = sym e.1 i; places = sym e.2 i }
