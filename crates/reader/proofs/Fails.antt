-- Spans, and the two ways in which a reader fails: where it stands, and in a part. Assumes nothing.
use Rattle.std.proofs.Common.{◌≡◌, ℕ, ◌+◌, ◌<◌, ◌≤◌, List, [], ◌∷◌, ◌++◌, length, get_or, take, sym, refl, ap, ◌∙◌, subst, ⊎_elim, arith, length-append, length-take}
use Rattle.std.proofs.lemmas.List.{append-nil, append_assoc, take_all, take_more}
use Rattle.std.proofs.str.Laws.{order}
use Rattle.reader.specs.Walk.{State, dead, step, run, Open}
use Rattle.reader.specs.Reader.{Spans, Failed}
use Rattle.reader.proofs.Walks.{then}

module _ (s : List ℕ) (at : ℕ) where
  pub spans_none : at ≤ length s → Spans s at at []
  spans_none h = record { spells = sym (append-nil (take at s)); forth = omega arith; within = h }

  pub spans_at : (e f : ℕ) (v : List ℕ) → e ≡ f → Spans s at e v → Spans s at f v
  spans_at e f v is h = subst (λ x. Spans s at x v) is h

  -- one byte on
  pub spans_byte : (e b : ℕ) (v : List ℕ) → Spans s at e v → e < length s → get_or s e 0 ≡ b → Spans s at (e + 1) (v ++ (b ∷ []))
  spans_byte e b v h lt is = record {
    spells = take_more s e 0 lt ∙ ap (λ x. take e s ++ (x ∷ [])) is ∙ ap (λ l. l ++ (b ∷ [])) h.spells ∙ append_assoc (take at s) v (b ∷ []);
    forth = omega (arith, h.forth);
    within = omega arith;
  }

  onto : (mid e : ℕ) (v w : List ℕ) → take mid s ≡ take at s ++ v → take e s ≡ take mid s ++ w → take e s ≡ take at s ++ (v ++ w)
  onto mid e v w h g = g ∙ ap (λ l. l ++ w) h ∙ append_assoc (take at s) v w

  -- one part on
  pub spans_part : (mid e : ℕ) (v w : List ℕ) → Spans s at mid v → Spans s mid e w → Spans s at e (v ++ w)
  spans_part mid e v w h g = record {
    spells = onto mid e v w h.spells g.spells;
    forth = omega (arith, h.forth, g.forth);
    within = g.within;
  }

  pub spans_length : (e : ℕ) (w : List ℕ) → Spans s at e w → e ≡ at + length w
  spans_length e w h =
      omega (arith, h.forth, h.within, sym (length-take e s) ∙ ap length h.spells ∙ length-append (take at s) w, length-take at s)

  module _ {I : Type 0} (Q : List ℕ → Type 0) (f : I → State) where
    -- v was read up to mid, led to q, and does not go on: Q would, with z
    pub fails_here : (mid : ℕ) (v z : List ℕ) (q : I → State) → Spans s at mid v → Q (v ++ z) → ((i : I) → run (f i) v ≡ q i) → (length s ≤ mid → (i : I) → Open (q i)) → (mid < length s → (i : I) → step (q i) (get_or s mid 0) ≡ dead) → Failed Q f s at mid
    fails_here mid v z q h would leads opens ends =
        ⊎_elim
        (λ lt.
        let no : (i : I) → run (f i) (v ++ (get_or s mid 0 ∷ [])) ≡ dead = λ i. then (f i) (q i) v (get_or s mid 0 ∷ []) (leads i) ∙ ends lt i in
        record {
          within = h.within;
          front = v;
          rest = z;
          spells = h.spells;
          begins = would;
          seen = v ++ (get_or s mid 0 ∷ []);
          longer = (spans_byte mid (get_or s mid 0) v h lt refl).spells;
          opens = λ i. subst Open (sym (no i)) tt;
          stuck = λ _. no;
        })
        (λ le. record {
          within = h.within;
          front = v;
          rest = z;
          spells = h.spells;
          begins = would;
          seen = v;
          longer = take_all (mid + 1) s (omega arith) ∙ sym (take_all mid s le) ∙ h.spells;
          opens = λ i. subst Open (sym (leads i)) (opens le i);
          stuck = λ lt. absurd (omega arith);
        })
        (order mid (length s))

    -- v was read up to mid, and the part P that follows fails: with z behind it Q would be had
    pub fails_in : {J : Type 0} (P : List ℕ → Type 0) (g : J → State) (mid p : ℕ) (v z : List ℕ) (to : I → J) → Spans s at mid v → ((w : List ℕ) → P w → Q (v ++ (w ++ z))) → ((i : I) → run (f i) v ≡ g (to i)) → Failed P g s mid p → Failed Q f s at p
    fails_in P g mid p v z to h would leads x =
        let no : (i : I) → run (f i) (v ++ x.seen) ≡ run (g (to i)) x.seen = λ i. then (f i) (g (to i)) v x.seen (leads i) in
        record {
          within = x.within;
          front = v ++ x.front;
          rest = x.rest ++ z;
          spells = onto mid p v x.front h.spells x.spells;
          begins = subst Q (sym (append_assoc v x.front (x.rest ++ z) ∙ ap (λ l. v ++ l) (sym (append_assoc x.front x.rest z)))) (would (x.front ++ x.rest) x.begins);
          seen = v ++ x.seen;
          longer = onto mid (p + 1) v x.seen h.spells x.longer;
          opens = λ i. subst Open (sym (no i)) (x.opens (to i));
          stuck = λ lt i. no i ∙ x.stuck lt (to i);
        }
