-- What a rack promises, by its book, after any calls on a rack just made. Assumes nothing.
use Rattle.std.specs.Prelude.{◌≡◌, ℕ, suc, ◌+◌, ◌<◌, true, List, [], ◌∷◌, length, IfSome, Some, Option, MatchOption}
use Rattle.std.specs.List.{slice_get}
use Rattle.model.specs.Semirings.{Algebra, Laws, ZeroTest}
use Rattle.model.specs.Tensors.{Holds}
use Rattle.model.specs.Reading.{accesses, line_of}
use Rattle.model.specs.Sums.{alike}
use Rattle.model.specs.Meaning.{line_listing, AgreeOn}
use Rattle.model.specs.Calls.{Call, STORE, COMPILE, STEP, READ, DROP, Answer, compiled, stepped, listed, dropped, refused, drained, not_drained}
use Rattle.model.specs.Stores.{Sizes, FormatRules}
use Rattle.model.specs.Books.{Slot, Loaded, Book, new_book, storage_of, tensors_of, commands_of, remaining, Answers, Written}

-- the levels of each filled slot hold its tensor
abbrev pub SlotsHold : {V : Type 0} → V → (ℕ → Option (Slot V)) → Type 0
SlotsHold o slots = (n : ℕ) → IfSome (slots n) (λ s. Holds o s.tensor (storage_of o (Some s)))

-- A history of calls: each is answered by the book before it and written into it, and the levels that a STORE built hold their tensor.
module _ {V : Type 0} (K : Algebra V) (z : Sizes) (rules : FormatRules) where
  pub data History : Book V → List (Call V × Answer V) → Book V → Type 0 where
    none : (b : Book V) → History b [] b
    call : (b m d : Book V) (c : Call V) (a : Answer V) (es : List (Call V × Answer V))
        → Answers K z rules b c a → Written b c a m → SlotsHold K.zero m.slots → History m es d → History b ((c, a) ∷ es) d

  -- a book that some calls on a new rack lead to
  abbrev pub Reached : Book V → Type 0
  Reached b = (es : List (Call V × Answer V)) × History new_book es b

-- Counting: the commands of the graph are those carried out and those that remain, as COMPILE and STEP answer them. STEP is refused as drained exactly when
-- none remains, READ as not drained exactly when any does. Results: once drained, READ of n answers the nth of the listing.
module _ {V : Type 0} (K : Algebra V) where
  abbrev pub Promised : Loaded V → Call V → Answer V → Type 0
  Promised g (STORE r) a = Unit {0}
  Promised g (COMPILE s) a = Unit {0}
  Promised g STEP a =
      (a ≡ refused drained → remaining g ≡ 0) × (remaining g ≡ 0 → a ≡ refused drained)
      × ((n : ℕ) → a ≡ stepped n → suc g.count + n ≡ length (commands_of g))
  Promised g (READ n) a =
      (a ≡ refused not_drained → 0 < remaining g) × (0 < remaining g → a ≡ refused not_drained)
      × (remaining g ≡ 0 → a ≡ listed (slice_get (line_listing K (tensors_of g.slots) g.line) n))
  Promised g DROP a = a ≡ dropped g.count

  -- after a COMPILE that is accepted, what it answered remains
  abbrev pub PromisedAfter : Call V → Answer V → Option (Loaded V) → Type 0
  PromisedAfter (STORE r) a g = Unit {0}
  PromisedAfter (COMPILE s) a g = (n : ℕ) → a ≡ compiled n → MatchOption g ⊥ (λ h. (remaining h ≡ n) × (h.count ≡ 0))
  PromisedAfter STEP a g = (n : ℕ) → a ≡ stepped n → MatchOption g ⊥ (λ h. remaining h ≡ n)
  PromisedAfter (READ m) a g = Unit {0}
  PromisedAfter DROP a g = Unit {0}

-- After every call on a rack just made.
abbrev pub Promises : Type 0 → Type 0
Promises V =
    (K : Algebra V) → Laws K → ZeroTest K → (z : Sizes) (rules : FormatRules) (b : Book V) → Reached K z rules b
    → IfSome b.loaded (λ g. g.count + remaining g ≡ length (commands_of g))
    × ((c : Call V) (a : Answer V) → Answers K z rules b c a
    → IfSome b.loaded (λ g. Promised K g c a) × ((m : Book V) → Written b c a m → PromisedAfter K c a m.loaded))

-- Two racks of one kind, of any sizes and formats, whose lines share a left side and multiply out alike, and whose named slots held equal extents and dense
-- values at COMPILE: once both are drained, READ of every n answers the same in both.
abbrev pub Agreements : Type 0 → Type 0
Agreements V =
    (K : Algebra V) → Laws K → ZeroTest K
    → (z y : Sizes) (rules others : FormatRules) (b d : Book V) → Reached K z rules b → Reached K y others d
    → (g h : Loaded V) → b.loaded ≡ Some g → d.loaded ≡ Some h → remaining g ≡ 0 → remaining h ≡ 0
    → g.line.left ≡ h.line.left → alike (line_of g.line) (line_of h.line) ≡ true
    → AgreeOn K.zero (tensors_of g.slots) (tensors_of h.slots) (accesses g.line.body)
    → (n : ℕ) (a e : Answer V) → Answers K z rules b (READ n) a → Answers K y others d (READ n) e → a ≡ e
