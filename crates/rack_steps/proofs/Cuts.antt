-- Areas cut to their room: what lies at the front of a cut area lies at the front of the area, and what frames the cut area frames the area. Assumes
-- nothing.
use Rattle.std.proofs.Common.{◌≡◌, ℕ, zero, suc, ◌+◌, ◌-◌, ◌<◌, ◌≤◌, List, [], ◌∷◌, ◌++◌, map, length, take, drop, sym, refl, ap, ◌∙◌, ⊎_elim, le_of_suc-le-suc, not-suc-le-zero, arith}
use Rattle.std.proofs.lemmas.List.{take-take, take-append-drop, drop-drop, length-take}
use Rattle.std.proofs.lemmas.Bool.{cases_lt}
use Rattle.model.specs.Semirings.{zipped}
use Rattle.model.specs.Streams.{Stream}
use Rattle.model.specs.Running.{Table}
use Rattle.results.specs.Keys.{coordinates}
use Rattle.results.specs.Tables.{entries}
use Rattle.results.specs.declared.key.ResultKey.{ResultKey}
use Rattle.streams.specs.declared.record.Tapes.{Tapes}
use Rattle.streams.specs.Held.{Keeps, Onward}
use Rattle.rack_state.specs.Mirrors.{TableHeld}

-- what is left behind the first n, up to the room and past it
drop_split : {X : Type 0} (n m : ℕ) (xs : List X) → n ≤ m → drop n xs ≡ drop n (take m xs) ++ drop m xs
drop_split zero m xs h = sym (take-append-drop m xs)
drop_split (suc n) zero xs h = absurd (not-suc-le-zero h)
drop_split (suc n) (suc m) [] h = refl
drop_split (suc n) (suc m) (x ∷ xs) h = drop_split n m xs (le_of_suc-le-suc h)

drop_further : {X : Type 0} (n m : ℕ) (xs ys : List X) → m ≤ n → drop m ys ≡ drop m xs → drop n ys ≡ drop n xs
drop_further n m xs ys h e =
    let is : n ≡ m + (n - m) = omega arith in
    ap (λ k. drop k ys) is ∙ sym (drop-drop (n - m) m ys) ∙ ap (drop (n - m)) e ∙ drop-drop (n - m) m xs ∙ ap (λ k. drop k xs) (sym is)

-- two areas that are equal behind n within the room, and past the room, are equal behind n
pub drop_whole : {X : Type 0} (n m : ℕ) (xs ys : List X) → drop n (take m ys) ≡ drop n (take m xs) → drop m ys ≡ drop m xs → drop n ys ≡ drop n xs
drop_whole {X} n m xs ys cut past =
    ⊎_elim
    (λ (h : n < m).
    let le : n ≤ m = omega arith in
    drop_split n m ys le ∙ ap (λ (zs : List X). zs ++ drop m ys) cut ∙ ap (λ (zs : List X). drop n (take m xs) ++ zs) past ∙ sym (drop_split n m xs le))
    (λ h. drop_further n m xs ys h past)
    (cases_lt n m)

-- equal within the room and past it
pub same_whole : {X : Type 0} (m : ℕ) (xs ys : List X) → take m ys ≡ take m xs → drop m ys ≡ drop m xs → ys ≡ xs
same_whole m xs ys cut past = drop_whole 0 m xs ys cut past

pub onward_whole : {X : Type 0} (m used next : ℕ) (xs ys : List X) → Onward used next (take m xs) (take m ys) → next ≤ length (take m xs) → drop m ys ≡ drop m xs → Onward used next xs ys
onward_whole m used next xs ys o within past =
    let le : used ≤ m = omega (arith, o.more, length-take m xs) in
    record {
      more = o.more;
      old = sym (take-take used m ys le) ∙ o.old ∙ take-take used m xs le;
      free = drop_whole next m xs ys o.free past;
    }

-- streams on the tapes
pub keeps_cut :
    {P V : Type 0} (reads : P → V) (ss : List (Stream V)) (t : Tapes) (m k : ℕ) (words : List ℕ) (values : List P) → t.used ≤ m → t.taken ≤ k
    → Keeps ss t words (map reads (take t.taken values)) → Keeps ss t (take m words) (map reads (take t.taken (take k values)))
keeps_cut reads ss t m k words values used taken h =
    record {
      count = h.count;
      used = h.used;
      tapes = take-take t.used m words used ∙ h.tapes;
      taken = h.taken;
      values = ap (map reads) (take-take t.taken k values taken) ∙ h.values;
      starts = h.starts;
    }

pub keeps_whole :
    {P V : Type 0} (reads : P → V) (ss : List (Stream V)) (t : Tapes) (m k : ℕ) (words : List ℕ) (values : List P) → t.used ≤ m → t.taken ≤ k
    → Keeps ss t (take m words) (map reads (take t.taken (take k values))) → Keeps ss t words (map reads (take t.taken values))
keeps_whole reads ss t m k words values used taken h =
    record {
      count = h.count;
      used = h.used;
      tapes = sym (take-take t.used m words used) ∙ h.tapes;
      taken = h.taken;
      values = ap (map reads) (sym (take-take t.taken k values taken)) ∙ h.values;
      starts = h.starts;
    }

-- a table in the rows
zipped_cut : {A B C : Type 0} (f : A → B → C) (m : ℕ) (xs : List A) (ys : List B) → zipped f (take m xs) (take m ys) ≡ take m (zipped f xs ys)
zipped_cut f zero xs ys = refl
zipped_cut f (suc m) [] ys = refl
zipped_cut f (suc m) (x ∷ xs) [] = refl
zipped_cut f (suc m) (x ∷ xs) (y ∷ ys) = ap (λ zs. f x y ∷ zs) (zipped_cut f m xs ys)

entries_cut : {P V : Type 0} (reads : P → V) (m n : ℕ) (ks : List ResultKey) (ps : List P) → n ≤ m → entries reads (take m ks) (take m ps) n ≡ entries reads ks ps n
entries_cut reads m n ks ps h =
    ap (take n) (zipped_cut (λ k p. (coordinates k, reads p)) m ks ps) ∙ take-take n m (zipped (λ k p. (coordinates k, reads p)) ks ps) h

pub table_cut :
    {P V : Type 0} (reads : P → V) (k : ℕ) (t : Table V) (m : ℕ) (keys : List ResultKey) (sums : List P) (n : ℕ) → n ≤ m
    → TableHeld reads k t keys sums n → TableHeld reads k t (take m keys) (take m sums) n
table_cut reads k t m keys sums n fit h =
    record {
      size = h.size;
      keys_fit = omega (arith, length-take m keys, h.keys_fit);
      sums_fit = omega (arith, length-take m sums, h.sums_fit);
      table = entries_cut reads m n keys sums fit ∙ h.table;
      ascends = h.ascends;
      wide = h.wide;
      narrow = h.narrow;
    }

pub table_whole :
    {P V : Type 0} (reads : P → V) (k : ℕ) (t : Table V) (m : ℕ) (keys : List ResultKey) (sums : List P) (n : ℕ)
    → TableHeld reads k t (take m keys) (take m sums) n → TableHeld reads k t keys sums n × (n ≤ m)
table_whole reads k t m keys sums n h =
    let fit : n ≤ m = omega (arith, length-take m keys, h.keys_fit) in (
      record {
        size = h.size;
        keys_fit = omega (arith, length-take m keys, h.keys_fit);
        sums_fit = omega (arith, length-take m sums, h.sums_fit);
        table = sym (entries_cut reads m n keys sums fit) ∙ h.table;
        ascends = h.ascends;
        wide = h.wide;
        narrow = h.narrow;
      },
      fit,
    )
