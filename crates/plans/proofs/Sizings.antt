-- The sizes of levels, one level after another.
use Rattle.std.proofs.Common.{◌≡◌, ℕ, suc, ◌+◌, ◌*◌, ◌<◌, ◌≤◌, true, false, ◌||◌, ltb, List, [], ◌∷◌, ◌++◌, map, length, get_or, take, drop, set, sum, sym, refl, ap, ◌∙◌, subst, ap₂, mul-le-mul_right, arith}
use Rattle.std.proofs.lemmas.List.{length-set, drop_more, drop_all, take_more_set, map_push, append_assoc, append-nil}
use Rattle.std.proofs.lemmas.List.Sums.{sum_by-cons}
use Rattle.std.proofs.lemmas.Bool.{lt-ltb, le-ltb, or_left, or_right}
use Rattle.model.specs.Formats.{LevelSize}
use Rattle.model.specs.Stores.{FormatRules, some_pass, positions_from, level_sizes, fronts}
use Rattle.slots.specs.Records.{level_of}
use Rattle.slots.specs.declared.records.LevelRecord.{LevelRecord}
use Rattle.plans.specs.Rows.{Ordered}
use Rattle.plans.specs.Rooms.{level_size, crowded}
use Rattle.plans.proofs.Numbers.{fronts_ample, fronts_first, fronts_all}

module _ (L P : ℕ) (rules : FormatRules) (w f k : ℕ) (s : LevelSize) (ls : List (ℕ × LevelSize)) where
  pub needed_more : sum (map (λ l. rules.need l.0 l.1) ((k, s) ∷ ls)) ≡ rules.need k s + sum (map (λ l. rules.need l.0 l.1) ls)
  needed_more = sum_by-cons (λ x. x) (rules.need k s) (map (λ l. rules.need l.0 l.1) ls)

  pub crowded_words : L < w + rules.need k s → crowded L P rules w f ((k, s) ∷ ls) ≡ true
  crowded_words h = or_left _ _ (lt-ltb L (w + sum (map (λ l. rules.need l.0 l.1) ((k, s) ∷ ls))) (omega (arith, needed_more)))

  pub crowded_children : 65536 < rules.children k s → crowded L P rules w f ((k, s) ∷ ls) ≡ true
  crowded_children h = or_right _ _ (or_left _ _ (or_left _ _ (lt-ltb 65536 (rules.children k s) h)))

  pub crowded_more : rules.children k s ≤ 65536
      → crowded L P rules w f ((k, s) ∷ ls) ≡ crowded L P rules (w + rules.need k s) (rules.children k s) ls
  crowded_more h =
      ap₂ (λ n b. ltb L n || (b || some_pass (λ l. ltb 65536 (rules.children l.0 l.1)) ls || ltb P (positions_from (rules.children k s) rules ls)))
      (let e : w + sum (map (λ l. rules.need l.0 l.1) ((k, s) ∷ ls)) ≡ w + rules.need k s + sum (map (λ l. rules.need l.0 l.1) ls) = omega (arith, needed_more) in e)
      (le-ltb 65536 (rules.children k s) h)

-- at the end only the positions are left to fit
pub crowded_end : (L P : ℕ) (rules : FormatRules) (w f : ℕ) → w ≤ L → crowded L P rules w f [] ≡ ltb P f
crowded_end L P rules w f h = ap (λ b. b || (false || ltb P f)) (le-ltb L (w + 0) (omega arith))

module _ (rules : FormatRules) (css : List (List ℕ)) (es fs : List ℕ) where
  abbrev pub sizes_from : ℕ → ℕ → List (ℕ × LevelSize)
  sizes_from i f = level_sizes rules css i f (drop i es) (drop i fs)

  abbrev pub size_at : ℕ → ℕ → LevelSize
  size_at i f = level_size (get_or es i 0) f (length (fronts (i + 1) css))

  pub sizes_more : (i f : ℕ) → i < length es → i < length fs
      → sizes_from i f ≡ (get_or fs i 0, size_at i f) ∷ sizes_from (i + 1) (rules.children (get_or fs i 0) (size_at i f))
  sizes_more i f h k =
      ap₂ (λ x y. level_sizes rules css i f x y) (drop_more es i 0 h) (drop_more fs i 0 k)
      ∙ ap (λ n. (let s : LevelSize = level_size (get_or es i 0) f (length (fronts n css)) in
      (get_or fs i 0, s) ∷ level_sizes rules css n (rules.children (get_or fs i 0) s) (drop (i + 1) es) (drop (i + 1) fs))) (let e : suc i ≡ i + 1 = omega arith in e)

  pub sizes_none : (i f : ℕ) → length es ≤ i → sizes_from i f ≡ []
  sizes_none i f h = ap (λ x. level_sizes rules css i f x (drop i fs)) (drop_all i es h)

-- a level for each extent
pub sizes_long : (rules : FormatRules) (css : List (List ℕ)) (n f : ℕ) (es fs : List ℕ) → length fs ≡ length es → length (level_sizes rules css n f es fs) ≡ length es
sizes_long rules css n f [] fs h = refl
sizes_long rules css n f (e ∷ es) [] h = absurd (omega arith)
sizes_long rules css n f (e ∷ es) (k ∷ fs) h = ap suc (sizes_long rules css (suc n) _ es fs (omega arith))

-- How far the sizing has come: words and fibers before level i, and the records of the levels before it.
pub record Sized (L P : ℕ) (rules : FormatRules) (css : List (List ℕ)) (es fs : List ℕ) (i f w : ℕ) (ls : List LevelRecord) : Type 0 where
  pub array : length ls ≡ 3
  pub few : f ≤ 65536
  pub room : w ≤ L
  pub apart : length (fronts i css) ≤ f
  pub so_far : level_sizes rules css 0 1 es fs ≡ map level_of (take i ls) ++ sizes_from rules css es fs i f
  pub crowds : crowded L P rules 0 1 (level_sizes rules css 0 1 es fs) ≡ crowded L P rules w f (sizes_from rules css es fs i f)
  pub positions : positions_from 1 rules (level_sizes rules css 0 1 es fs) ≡ positions_from f rules (sizes_from rules css es fs i f)

module _ (L P : ℕ) (rules : FormatRules) (css : List (List ℕ)) (es fs : List ℕ) (o : Ordered es css) (paired : length fs ≡ length es)
    (i f w : ℕ) (ls : List LevelRecord) (t : Sized L P rules css es fs i f w ls) where
  pub sized_fits : i < length es → length (fronts (i + 1) css) ≤ f * get_or es i 0
  sized_fits h =
      let a = fronts_ample es css o i h in
      let e : suc i ≡ i + 1 = omega arith in
      let b = ap (λ n. length (fronts n css)) e in
      omega (arith, mul-le-mul_right {m = length (fronts i css)} {n = f} (get_or es i 0) t.apart)

  -- what one more level brings
  module _ (h : i < length es) where
    abbrev next_size : LevelSize
    next_size = size_at rules css es fs i f

    step : sizes_from rules css es fs i f ≡ (get_or fs i 0, next_size) ∷ sizes_from rules css es fs (i + 1) (rules.children (get_or fs i 0) next_size)
    step = sizes_more rules css es fs i f h (omega arith)

    pub sized_crowded : 65536 < rules.children (get_or fs i 0) next_size → crowded L P rules 0 1 (level_sizes rules css 0 1 es fs) ≡ true
    sized_crowded q = t.crowds ∙ ap (crowded L P rules w f) step ∙ crowded_children L P rules w f (get_or fs i 0) next_size (sizes_from rules css es fs (i + 1) (rules.children (get_or fs i 0) next_size)) q

    pub sized_long : L < w + rules.need (get_or fs i 0) next_size → crowded L P rules 0 1 (level_sizes rules css 0 1 es fs) ≡ true
    sized_long q = t.crowds ∙ ap (crowded L P rules w f) step ∙ crowded_words L P rules w f (get_or fs i 0) next_size (sizes_from rules css es fs (i + 1) (rules.children (get_or fs i 0) next_size)) q

    pub sized_more : (l : LevelRecord) → i < 3 → level_of l ≡ (get_or fs i 0, next_size) → rules.children (get_or fs i 0) next_size ≤ 65536
        → w + rules.need (get_or fs i 0) next_size ≤ L
        → length (fronts (i + 1) css) ≤ rules.children (get_or fs i 0) next_size
        → Sized L P rules css es fs (i + 1) (rules.children (get_or fs i 0) next_size) (w + rules.need (get_or fs i 0) next_size) (set ls i l)
    sized_more l few is c r a = record {
      array = length_same;
      few = c;
      room = r;
      apart = a;
      so_far = t.so_far ∙ ap (λ x. map level_of (take i ls) ++ x) step ∙ front;
      crowds = t.crowds ∙ ap (crowded L P rules w f) step ∙ crowded_more L P rules w f (get_or fs i 0) next_size (sizes_from rules css es fs (i + 1) (rules.children (get_or fs i 0) next_size)) c;
      positions = t.positions ∙ ap (positions_from f rules) step;
    }
      where
        length_same : length (set ls i l) ≡ 3
        length_same = length-set ls i l ∙ t.array

        rest : List (ℕ × LevelSize)
        rest = sizes_from rules css es fs (i + 1) (rules.children (get_or fs i 0) next_size)

        front : map level_of (take i ls) ++ ((get_or fs i 0, next_size) ∷ rest) ≡ map level_of (take (i + 1) (set ls i l)) ++ rest
        front = sym (ap (λ z. map level_of z ++ rest) (take_more_set ls i l (omega (arith, t.array))) ∙ ap (λ z. z ++ rest) (map_push level_of (take i ls) l)
            ∙ append_assoc (map level_of (take i ls)) (level_of l ∷ []) rest ∙ ap (λ y. map level_of (take i ls) ++ (y ∷ rest)) is)

    -- the same of what a turn of the sizing has: the level's record, and what its format answers
    module _ (l : LevelRecord) (n : ℕ) (counted : n ≡ length (fronts (i + 1) css))
        (is : level_of l ≡ (get_or fs i 0, level_size (get_or es i 0) f n)) (need children : ℕ)
        (needs : need ≡ rules.need l.format (level_of l).1) (bears : children ≡ rules.children l.format (level_of l).1) where
      its : level_of l ≡ (get_or fs i 0, next_size)
      its = is ∙ ap (λ m. (get_or fs i 0, level_size (get_or es i 0) f m)) counted

      need_is : need ≡ rules.need (get_or fs i 0) next_size
      need_is = needs ∙ ap (λ x. rules.need x.0 x.1) its

      children_are : children ≡ rules.children (get_or fs i 0) next_size
      children_are = bears ∙ ap (λ x. rules.children x.0 x.1) its

      pub turn_long : L < w + need → crowded L P rules 0 1 (level_sizes rules css 0 1 es fs) ≡ true
      turn_long q = sized_long (omega (arith, need_is))

      pub turn_more : i < 3 → rules.children (get_or fs i 0) (level_size (get_or es i 0) f n) ≤ 65536 → w + need ≤ L
          → (next_size.entries ≤ next_size.fibers * next_size.extent → next_size.entries ≤ rules.children (get_or fs i 0) next_size)
          → Sized L P rules css es fs (i + 1) children (w + need) (set ls i l)
      turn_more few c r ample =
          let bound = ap (λ m. rules.children (get_or fs i 0) (level_size (get_or es i 0) f m)) counted in
          subst (λ z. Sized L P rules css es fs (i + 1) z (w + need) (set ls i l)) (sym children_are)
          (subst (λ z. Sized L P rules css es fs (i + 1) (rules.children (get_or fs i 0) next_size) (w + z) (set ls i l)) (sym need_is)
          (sized_more l few its (omega (arith, bound)) (omega (arith, need_is)) (ample (sized_fits h))))

  -- all levels are sized
  module _ (h : length es ≤ i) where
    pub sized_end : crowded L P rules 0 1 (level_sizes rules css 0 1 es fs) ≡ ltb P f
    sized_end = t.crowds ∙ ap (crowded L P rules w f) (sizes_none rules css es fs i f h) ∙ crowded_end L P rules w f t.room

    pub sized_all : map level_of (take i ls) ≡ level_sizes rules css 0 1 es fs
    sized_all = sym (t.so_far ∙ ap (λ x. map level_of (take i ls) ++ x) (sizes_none rules css es fs i f h) ∙ append-nil (map level_of (take i ls)))

    pub sized_positions : f ≡ positions_from 1 rules (level_sizes rules css 0 1 es fs)
    sized_positions = sym (t.positions ∙ ap (positions_from f rules) (sizes_none rules css es fs i f h))

    -- there is a position for each row
    pub sized_few : i ≡ length es → length css ≤ f
    sized_few e = omega (arith, t.apart, fronts_all es css o, ap (λ n. length (fronts n css)) e)

-- nothing is sized yet
pub sized_none : (L P : ℕ) (rules : FormatRules) (css : List (List ℕ)) (es fs : List ℕ) (ls : List LevelRecord) → length ls ≡ 3 → Ordered es css
    → Sized L P rules css es fs 0 1 0 ls
sized_none L P rules css es fs ls n o = record {
  array = n;
  few = omega arith;
  room = omega arith;
  apart = fronts_first es css o;
  so_far = refl;
  crowds = refl;
  positions = refl;
}
