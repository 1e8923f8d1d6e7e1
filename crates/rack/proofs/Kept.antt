-- What the calls do keeps the promises: a rack that mirrors a book goes on to mirror it, and a book that calls lead to keeps them. Assumes nothing.
use Rattle.std.proofs.Common.{◌≡◌, ℕ, zero, suc, ◌≤◌, List, [], ◌∷◌, ◌++◌, length, take, drop, sym, refl, ap, ◌∙◌, subst, append_assoc, le_of_suc-le-suc, not-suc-le-zero}
use Rattle.std.proofs.lemmas.List.{append-nil}
use Rattle.model.specs.Semirings.{Algebra, Laws, ZeroTest}
use Rattle.model.specs.Fibers.{Level}
use Rattle.model.specs.Formats.{LevelSize}
use Rattle.model.specs.Calls.{Call, STORE, COMPILE, STEP, READ, DROP, Answer}
use Rattle.model.specs.Stores.{Sizes, FormatRules}
use Rattle.model.specs.Books.{Book, new_book, Answers, Written}
use Rattle.model.specs.Promises.{SlotsHold, History}
use Rattle.model.specs.Promises as promises
use Rattle.model.proofs.Central.{meaning as meaning_of, agreement as agreement_of}
use Rattle.model.proofs.OneAnswer.{one_answer}
use Rattle.model.proofs.Promised.{promises as promises_of, agreements as agreements_of}
use Rattle.rack_state.specs.Snapshots.{Snapshot}
use Rattle.rack_state.specs.Mirrors.{Mirrors}
use Rattle.rack_state.specs.Does.{Does}
use Rattle.rack.specs.Courses.{Events, Course, none, call, PromisedNow, Promise, Agreed, Agreement}
use Rattle.rack.proofs.Shown.{shown}

module _ {P V : Type 0} (K : Algebra V) (reads : P → V) (rules : FormatRules) (meaning : ℕ → LevelSize → List ℕ → Level) where
  sizes_stay : (c : Call V) (s : Snapshot P) (a : Answer V) (t : Snapshot P) → Does K reads rules meaning c s a t → t.sizes ≡ s.sizes
  sizes_stay (STORE r) s a t d = d.stays.others.sizes
  sizes_stay (COMPILE text) s a t d = d.stays.sizes
  sizes_stay STEP s a t d = d.stays.sizes
  sizes_stay (READ n) s a t d = ap (λ x. x.sizes) d.stays
  sizes_stay DROP s a t d = d.stays.0.sizes

  -- one more call at the end of a history
  history_more : (z : Sizes) (b m d : Book V) (es : Events V) (c : Call V) (a : Answer V) → History K z rules b es m → Answers K z rules m c a → Written m c a d
      → SlotsHold K.zero d.slots → History K z rules b (es ++ (c, a) ∷ []) d
  history_more z b m d [] c a (promises.none _) ans w h = promises.call b d d c a [] ans w h (promises.none d)
  history_more z b m d (e ∷ es) c a (promises.call _ n _ c' a' _ ans' w' h' rest) ans w h =
      promises.call b n d c' a' (es ++ (c, a) ∷ []) ans' w' h' (history_more z n m d es c a rest ans w h)

  -- a book that calls led to, and that the rack mirrors
  abbrev Led : Sizes → Events V → Snapshot P → Type 0
  Led z es m = (m.sizes ≡ z) × ((b : Book V) × History K z rules new_book es b × Mirrors K reads rules meaning b m)

  led_more : (z : Sizes) (es : Events V) (s m : Snapshot P) (c : Call V) (a : Answer V) → Led z es s → Does K reads rules meaning c s a m → Led z (es ++ (c, a) ∷ []) m
  led_more z es s m c a l d =
      let b : Book V = l.1.0 in
      let by = d.by_book b l.1.2 in
      let next : Book V = by.1.0 in (
        sizes_stay c s a m d ∙ l.0,
        (next, history_more z new_book b next es c a l.1.1 (subst (λ y. Answers K y rules b c a) l.0 by.0) by.1.1 by.1.2.held, by.1.2),
      )

  -- after k of the calls
  reach : (z : Sizes) (past es : Events V) (s t : Snapshot P) → Led z past s → Course K reads rules meaning s es t → (k : ℕ) → k ≤ length es
      → (m : Snapshot P) × Course K reads rules meaning s (take k es) m × Course K reads rules meaning m (drop k es) t × Led z (past ++ take k es) m
  reach z past es s t l r zero h = (s, none s, r, subst (λ x. Led z x s) (sym (append-nil past)) l)
  reach z past [] s t l (none _) (suc k) h = absurd (not-suc-le-zero h)
  reach z past (e ∷ es) s t l (call _ m _ c a _ d r) (suc k) h =
      let go = reach z (past ++ (c, a) ∷ []) es m t (led_more z past s m c a l d) r k (le_of_suc-le-suc h) in
      (go.0, call s m go.0 c a (take k es) d go.1, go.2, subst (λ x. Led z x go.0) (append_assoc past ((c, a) ∷ []) (take k es)) go.3)

  module _ (laws : Laws K) (test : ZeroTest K) where
    promised : (es : Events V) (m : Snapshot P) (b : Book V) → History K m.sizes rules new_book es b → Mirrors K reads rules meaning b m → PromisedNow K reads rules meaning es m
    promised es m b h mirrors =
        let all = promises_of V (meaning_of V) one_answer K laws test m.sizes rules b (es, h) in
        record {
          book = b;
          history = h;
          mirrors = mirrors;
          counting = all.0;
          streams = shown K reads rules meaning m b.slots b.loaded m.loaded mirrors.graph;
          next = λ c a t d. all.1 c a (d.by_book b mirrors).0;
        }

    pub kept : (s : Snapshot P) (es : Events V) (t : Snapshot P) → Mirrors K reads rules meaning new_book s → Course K reads rules meaning s es t → Promise K reads rules meaning s es t
    kept s es t start r k h =
        let go = reach s.sizes [] es s t (refl, (new_book, promises.none new_book, start)) r k h in
        let m : Snapshot P = go.0 in
        (m, go.1, go.2, promised (take k es) m go.3.1.0 (subst (λ y. History K y rules new_book (take k es) go.3.1.0) (sym go.3.0) go.3.1.1) go.3.1.2)

module _ {P V : Type 0} (K : Algebra V) (laws : Laws K) (test : ZeroTest K) (reads : P → V) (rules others : FormatRules) (meaning other : ℕ → LevelSize → List ℕ → Level) where
  pub agreed : {es ds : Events V} {m w : Snapshot P} (p : PromisedNow K reads rules meaning es m) (q : PromisedNow K reads others other ds w) → Agreed K reads rules others meaning other p q
  agreed {es} {ds} {m} {w} p q g h gl hl gd hd left same on n a e t u da de =
      agreements_of V (meaning_of V) (agreement_of V) K laws test m.sizes w.sizes rules others p.book q.book (es, p.history) (ds, q.history) g h gl hl gd hd left same on n a e
      (da.by_book p.book p.mirrors).0 (de.by_book q.book q.mirrors).0

  pub agreement : (s r : Snapshot P) (es ds : Events V) → Agreement K reads rules others meaning other s es r ds
  agreement s r es ds k l kh lh m w cm cw p q = agreed p q
