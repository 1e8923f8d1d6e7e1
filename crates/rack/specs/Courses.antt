-- Calls on a rack one after another, and what is promised of it after every one of them. Assumes nothing.
use Rattle.std.specs.Prelude.{◌≡◌, ℕ, ◌+◌, ◌≤◌, true, List, [], ◌∷◌, map, length, take, drop, IfSome, Some}
use Rattle.model.specs.Semirings.{Algebra}
use Rattle.model.specs.Fibers.{Level}
use Rattle.model.specs.Formats.{LevelSize}
use Rattle.model.specs.Calls.{Call, READ, Answer}
use Rattle.model.specs.Stores.{FormatRules}
use Rattle.model.specs.Books.{Loaded, Book, new_book, tensors_of, commands_of, remaining, Written}
use Rattle.model.specs.Promises.{History, Promised, PromisedAfter}
use Rattle.model.specs.Areas.{Area, Shows}
use Rattle.model.specs.Reading.{line_of, accesses}
use Rattle.model.specs.Sums.{alike}
use Rattle.model.specs.Meaning.{AgreeOn}
use Rattle.results.specs.Keys.{listed}
use Rattle.rack_state.specs.Snapshots.{Snapshot}
use Rattle.rack_state.specs.Mirrors.{Mirrors}
use Rattle.rack_state.specs.Does.{Does}

-- calls, each with its answer
abbrev pub Events : Type 0 → Type 0
Events V = List (Call V × Answer V)

abbrev pub area : {X : Type 0} → List X → ℕ → Area X
area xs n = record { places = xs; used = n }

module _ {P V : Type 0} (K : Algebra V) (reads : P → V) (rules : FormatRules) (meaning : ℕ → LevelSize → List ℕ → Level) where
  -- calls that lead a rack from one state to another
  pub data Course : Snapshot P → Events V → Snapshot P → Type 0 where
    none : (s : Snapshot P) → Course s [] s
    call : (s m t : Snapshot P) (c : Call V) (a : Answer V) (es : Events V) → Does K reads rules meaning c s a m → Course m es t → Course s ((c, a) ∷ es) t

  -- the tapes, values, keys and sums in use are those of the commands carried out: each stream is the one that its block's rule gives from the tensors held at
  -- COMPILE, one tree closed by done
  abbrev pub ShowsGraph : Snapshot P → Loaded V → Type 0
  ShowsGraph m g =
      Shows K g (area m.words m.tapes.used) (area (map reads m.values) m.tapes.taken) (area (listed m.keys) m.count) (area (map reads m.sums) m.count)

  -- What is promised of a rack after calls on a new one, by its book. Counting: the commands of the graph are those carried out and those that remain, and the
  -- answers of the next call say so. Streams: the areas show them. Results: once drained, READ of n answers the nth of the listing (`Promised`).
  pub record PromisedNow (es : Events V) (m : Snapshot P) : Type 0 where
    pub book : Book V
    pub history : History K m.sizes rules new_book es book
    pub mirrors : Mirrors K reads rules meaning book m
    pub counting : IfSome book.loaded (λ g. g.count + remaining g ≡ length (commands_of g))
    pub streams : IfSome book.loaded (ShowsGraph m)
    pub next :
        (c : Call V) (a : Answer V) (t : Snapshot P) → Does K reads rules meaning c m a t
        → IfSome book.loaded (λ g. Promised K g c a) × ((d : Book V) → Written book c a d → PromisedAfter K c a d.loaded)

  -- after every call
  abbrev pub Promise : Snapshot P → Events V → Snapshot P → Type 0
  Promise s es t =
      (k : ℕ) → k ≤ length es → (m : Snapshot P) × Course s (take k es) m × Course m (drop k es) t × PromisedNow (take k es) m

-- Agreement of two racks of one kind, each with its formats: where both are drained, their lines share a left side and multiply out alike, and the slots that
-- they name held equal extents and dense values at COMPILE, READ of every n answers the same in both.
module _ {P V : Type 0} (K : Algebra V) (reads : P → V) (rules others : FormatRules) (meaning other : ℕ → LevelSize → List ℕ → Level) where
  abbrev pub Agreed : {es ds : Events V} {m w : Snapshot P} → PromisedNow K reads rules meaning es m → PromisedNow K reads others other ds w → Type 0
  Agreed {es} {ds} {m} {w} p q =
      (g h : Loaded V) → p.book.loaded ≡ Some g → q.book.loaded ≡ Some h → remaining g ≡ 0 → remaining h ≡ 0
      → g.line.left ≡ h.line.left → alike (line_of g.line) (line_of h.line) ≡ true
      → AgreeOn K.zero (tensors_of g.slots) (tensors_of h.slots) (accesses g.line.body)
      → (n : ℕ) (a e : Answer V) (t u : Snapshot P) → Does K reads rules meaning (READ n) m a t → Does K reads others other (READ n) w e u → a ≡ e

  -- after every call on either
  abbrev pub Agreement : Snapshot P → Events V → Snapshot P → Events V → Type 0
  Agreement s es r ds =
      (k l : ℕ) → k ≤ length es → l ≤ length ds → (m w : Snapshot P) → Course K reads rules meaning s (take k es) m → Course K reads others other r (take l ds) w
      → (p : PromisedNow K reads rules meaning (take k es) m) (q : PromisedNow K reads others other (take l ds) w) → Agreed p q
