-- Levels built one below the other: what stands after i of them.
use Rattle.std.proofs.Common.{◌≡◌, ℕ, suc, ◌+◌, ◌<◌, ◌≤◌, false, List, [], ◌∷◌, ◌++◌, map, length, get_or, take, drop, Some, sum, sym, refl, ap, ◌∙◌, subst, ap₂, arith}
use Rattle.std.proofs.ByRecursion.{All-get_or}
use Rattle.std.proofs.lemmas.List.{take_more, take_all, drop_more, drop_all, drop-drop, length-take-le, length-map, get_or-map, get_or-take, take-map}
use Rattle.std.proofs.lemmas.List.Sums.{sum_by-take-le}
use Rattle.slots.specs.Records.{level_of}
use Rattle.slots.specs.declared.records.LevelRecord.{LevelRecord}
use Rattle.model.specs.Fibers.{Level, Lawful, fiber_at, child}
use Rattle.model.specs.Formats.{LevelSize}
use Rattle.model.specs.Tensors.{Stacked, reached}
use Rattle.model.specs.Stores.{FormatRules, level_sizes, positions_from, outside, fronts}
use Rattle.slots.specs.Layouts.{needed, levels_on, Kept}
use Rattle.plans.specs.Rows.{Ordered}
use Rattle.plans.specs.Rooms.{level_size}
use Rattle.plans.proofs.Numbers.{row_long}
use Rattle.plans.proofs.Sizings.{sizes_from, size_at, sizes_more}
use Rattle.tensors.specs.Fillings.{Owners, Added, Raised}
use Rattle.tensors.proofs.Stacks.{stacked_long, stacked_more, reached_more, reached_below, reached_one}
use Rattle.tensors.proofs.Layers.{needed_more, levels_front, kept_front, levels_more, kept_more}

module _ (rules : FormatRules) (meaning : ℕ → LevelSize → List ℕ → Level) (kept : ℕ → LevelSize → List ℕ → Type 0)
    (ls : List (ℕ × LevelSize)) (es fs : List ℕ) (css : List (List ℕ)) (ws : List ℕ) where
  pub record Standing (i start : ℕ) (os after : List ℕ) : Type 0 where
    pub fibers : ℕ
    pub stacked : Stacked (take i es) 1 (levels_on rules meaning (take i ls) after) fibers
    pub next : drop i ls ≡ sizes_from rules css es fs i fibers
    pub positions : positions_from fibers rules (drop i ls) ≡ positions_from 1 rules ls
    pub at : start ≡ needed rules (take i ls)
    pub sound : Kept rules kept (take i ls) after
    pub led : (k : ℕ) → k < length css → reached (levels_on rules meaning (take i ls) after) (Some 0) (take i (get_or css k [])) ≡ Some (get_or os k 0)
    pub rest : drop start after ≡ drop start ws

-- The level at i as the levels before it leave it: its numbers, the owners of its entries, and the words that it needs.
pub record Next (rules : FormatRules) (ls : List (ℕ × LevelSize)) (es : List ℕ) (css : List (List ℕ)) (i start : ℕ) (os : List ℕ) (k : ℕ) (s : LevelSize) : Type 0 where
  pub extent : s.extent ≡ get_or es i 0
  pub entries : s.entries ≡ length (fronts (suc i) css)
  pub owned : Owners i s.fibers os css
  pub room : start + rules.need k s ≤ needed rules ls

-- the level that a record has at i
pub level_at : (ls : List LevelRecord) (rank i : ℕ) (d : LevelRecord) → i < rank → length (map level_of (take rank ls)) ≡ rank
    → get_or (map level_of (take rank ls)) i (0, level_size 0 0 0) ≡ level_of (get_or ls i d)
level_at ls rank i d h long =
    get_or-map level_of (take rank ls) i d (0, level_size 0 0 0) (omega (arith, length-map (take rank ls) level_of)) ∙ ap level_of (get_or-take rank ls i d h)

pub standing_none : (rules : FormatRules) (meaning : ℕ → LevelSize → List ℕ → Level) (kept : ℕ → LevelSize → List ℕ → Type 0)
    (ls : List (ℕ × LevelSize)) (es fs : List ℕ) (css : List (List ℕ)) (ws os : List ℕ)
    → ls ≡ level_sizes rules css 0 1 es fs → ((k : ℕ) → k < length css → get_or os k 0 ≡ 0) → Standing rules meaning kept ls es fs css ws 0 0 os ws
standing_none rules meaning kept ls es fs css ws os sized roots = record {
  fibers = 1;
  stacked = refl;
  next = sized;
  positions = refl;
  at = refl;
  sound = tt;
  led = λ k h. ap Some (sym (roots k h));
  rest = refl;
}

module _ (rules : FormatRules) (meaning : ℕ → LevelSize → List ℕ → Level) (kept : ℕ → LevelSize → List ℕ → Type 0)
    (ls : List (ℕ × LevelSize)) (es fs : List ℕ) (css : List (List ℕ)) (ws : List ℕ) (o : Ordered es css)
    (i start : ℕ) (os after : List ℕ) (same : length os ≡ length css) (t : Standing rules meaning kept ls es fs css ws i start os after) where
  front_long : i ≤ length es → (k : ℕ) → k < length css → length (take i (get_or css k [])) ≡ length (levels_on rules meaning (take i ls) after)
  front_long h k l =
      let inside = All-get_or (λ cs. outside es cs ≡ false) css k [] l o.within in
      length-take-le i (get_or css k []) (omega (arith, row_long es (get_or css k []) inside))
      ∙ sym (stacked_long (take i es) 1 (levels_on rules meaning (take i ls) after) t.fibers t.stacked ∙ length-take-le i es h)

  pub standing_owners : i ≤ length es → Owners i t.fibers os css
  standing_owners h = record {
    long = same;
    few = λ k l. reached_below (take i es) 1 _ t.fibers t.stacked 0 (take i (get_or css k [])) (get_or os k 0) (omega arith) (front_long h k l) (t.led k l);
    one = λ j k l m e.
        (reached_one (take i es) 1 _ t.fibers t.stacked 0 0 (take i (get_or css j [])) (take i (get_or css k [])) (get_or os k 0) (omega arith) (omega arith)
        (front_long h j l) (front_long h k m) (t.led j l ∙ ap Some e) (t.led k m)).1;
    all = λ j k l m e.
        let a = t.led j l in
        let b = t.led k m in
        let c = ap (reached (levels_on rules meaning (take i ls) after) (Some 0)) e in
        let z : get_or os j 0 ≡ get_or os k 0 = cc in z;
  }

  -- all levels stand
  pub standing_all : length es ≤ i → length ls ≤ i → Raised rules meaning kept ls es css ws os after
  standing_all h g =
      let whole = take_all i ls g in
      let none = drop_all i ls g in
      let full : take i es ≡ es = take_all i es h in
      record {
        stacked = subst (λ n. Stacked es 1 (levels_on rules meaning ls after) n) (sym (ap (positions_from t.fibers rules) none) ∙ t.positions)
            (subst (λ x. Stacked x 1 (levels_on rules meaning ls after) t.fibers) full
            (subst (λ x. Stacked (take i es) 1 (levels_on rules meaning x after) t.fibers) whole t.stacked));
        sound = subst (λ x. Kept rules kept x after) whole t.sound;
        led = λ k l.
            let inside = All-get_or (λ cs. outside es cs ≡ false) css k [] l o.within in
            ap₂ (λ x cs. reached (levels_on rules meaning x after) (Some 0) cs) (sym whole) (sym (take_all i (get_or css k []) (omega (arith, row_long es (get_or css k []) inside)))) ∙ t.led k l;
        rest = subst (λ n. drop n after ≡ drop n ws) (t.at ∙ ap (needed rules) whole) t.rest;
      }

  -- the next level
  module _ (h : i < length es) (paired : length fs ≡ length es) (long : i < length ls) (k : ℕ) (s : LevelSize) (is : get_or ls i (0, level_size 0 0 0) ≡ (k, s)) where
    abbrev f : ℕ
    f = t.fibers

    unfolded : (get_or ls i (0, level_size 0 0 0)) ∷ drop (i + 1) ls ≡ (get_or fs i 0, size_at rules css es fs i f) ∷ sizes_from rules css es fs (i + 1) (rules.children (get_or fs i 0) (size_at rules css es fs i f))
    unfolded = sym (drop_more ls i (0, level_size 0 0 0) long) ∙ t.next ∙ sizes_more rules css es fs i f h (omega arith)

    pub level_is : ◌≡◌ {A = ℕ × LevelSize} (k, s) (get_or fs i 0, size_at rules css es fs i f)
    level_is = sym is ∙ (let e : get_or ls i (0, level_size 0 0 0) ≡ (get_or fs i 0, size_at rules css es fs i f) = cc unfolded in e)

    below_is : drop (i + 1) ls ≡ sizes_from rules css es fs (i + 1) (rules.children k s)
    below_is =
        (let e : drop (i + 1) ls ≡ sizes_from rules css es fs (i + 1) (rules.children (get_or fs i 0) (size_at rules css es fs i f)) = cc unfolded in e)
        ∙ ap (λ x. sizes_from rules css es fs (i + 1) (rules.children x.0 x.1)) (sym level_is)

    front_is : take (i + 1) ls ≡ take i ls ++ (k, s) ∷ []
    front_is = take_more ls i (0, level_size 0 0 0) long ∙ ap (λ x. take i ls ++ x ∷ []) is

    its_extent : s.extent ≡ get_or es i 0
    its_extent = ap (λ x. x.1.extent) level_is

    pub its_fibers : s.fibers ≡ f
    its_fibers = ap (λ x. x.1.fibers) level_is

    its_entries : s.entries ≡ length (fronts (suc i) css)
    its_entries = ap (λ x. x.1.entries) level_is ∙ ap (λ n. length (fronts n css)) (let e : i + 1 ≡ suc i = omega arith in e)

    its_owners : Owners i s.fibers os css
    its_owners = subst (λ n. Owners i n os css) (sym its_fibers) (standing_owners (omega arith))

    its_room : start + rules.need k s ≤ needed rules ls
    its_room =
        let a = ap (needed rules) front_is ∙ needed_more rules (take i ls) (k, s) in
        let b = sum_by-take-le (λ x. x) (map (λ l. rules.need l.0 l.1) ls) (i + 1) in
        let e = ap sum (take-map (λ l. rules.need l.0 l.1) (i + 1) ls) in
        omega (arith, t.at)

    -- what a turn of the building has of its level
    pub next_level : Next rules ls es css i start os k s
    next_level = record { extent = its_extent; entries = its_entries; owned = its_owners; room = its_room }

    module _ (deeper new : List ℕ) (a : Added (rules.need k s) (kept k s) (meaning k s) i start css os after deeper new)
        (lawful : Lawful s.extent s.fibers (rules.children k s) (meaning k s (take (rules.need k s) (drop start new)))) where
      abbrev level : Level
      level = meaning k s (take (rules.need k s) (drop start new))

      above : take (needed rules (take i ls)) after ≡ take (needed rules (take i ls)) new
      above = subst (λ n. take n after ≡ take n new) t.at (sym a.front)

      levels_are : levels_on rules meaning (take (i + 1) ls) new ≡ levels_on rules meaning (take i ls) after ++ level ∷ []
      levels_are =
          ap (λ x. levels_on rules meaning x new) front_is ∙ levels_more rules meaning kept (take i ls) (k, s) new
          ∙ ap₂ (λ x n. x ++ meaning k s (take (rules.need k s) (drop n new)) ∷ []) (sym (levels_front rules meaning kept (take i ls) after new above)) (sym t.at)

      led_more : (m : ℕ) → m < length css → reached (levels_on rules meaning (take (i + 1) ls) new) (Some 0) (take (i + 1) (get_or css m [])) ≡ Some (get_or deeper m 0)
      led_more m l =
          let inside = All-get_or (λ cs. outside es cs ≡ false) css m [] l o.within in
          let row = get_or css m [] in
          ap₂ (λ x cs. reached x (Some 0) cs) levels_are (take_more row i 0 (omega (arith, row_long es row inside)))
          ∙ reached_more (levels_on rules meaning (take i ls) after) level (Some 0) (take i row) (get_or row i 0) (front_long (omega arith) m l)
          ∙ ap (λ r. child (fiber_at level r) (get_or row i 0)) (t.led m l) ∙ a.led m l

      pub standing_more : Standing rules meaning kept ls es fs css ws (i + 1) (start + rules.need k s) deeper new
      standing_more = record {
        fibers = rules.children k s;
        stacked = subst (λ x. Stacked x 1 (levels_on rules meaning (take (i + 1) ls) new) (rules.children k s)) (sym (take_more es i 0 h))
            (subst (λ x. Stacked (take i es ++ get_or es i 0 ∷ []) 1 x (rules.children k s)) (sym levels_are)
            (stacked_more (take i es) 1 (levels_on rules meaning (take i ls) after) f (get_or es i 0) (rules.children k s) level t.stacked
            (subst (λ x. Lawful x.1.extent x.1.fibers (rules.children k s) level) level_is lawful)));
        next = below_is;
        positions = sym (ap (positions_from f rules) (drop_more ls i (0, level_size 0 0 0) long)
            ∙ ap (λ x. positions_from (rules.children x.0 x.1) rules (drop (i + 1) ls)) is) ∙ t.positions;
        at = ap₂ (λ x (y : ℕ). x + y) t.at refl ∙ sym (ap (needed rules) front_is ∙ needed_more rules (take i ls) (k, s));
        sound = subst (λ x. Kept rules kept x new) (sym front_is)
            (kept_more rules meaning kept (take i ls) (k, s) new (kept_front rules meaning kept (take i ls) after new above t.sound)
            (subst (λ n. kept k s (take (rules.need k s) (drop n new))) t.at a.sound));
        led = led_more;
        rest = a.back ∙ sym (drop-drop (rules.need k s) start after) ∙ ap (drop (rules.need k s)) t.rest ∙ drop-drop (rules.need k s) start ws;
      }
