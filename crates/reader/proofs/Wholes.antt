-- From the parts to the line. Assumes nothing.
use Rattle.std.proofs.Common.{◌≡◌, ℕ, ◌+◌, ◌<◌, ◌≤◌, List, [], ◌∷◌, ◌++◌, length, take, get_or, sym, refl, ap, ◌∙◌, subst, inr, arith, length-append}
use Rattle.std.proofs.lemmas.List.{append-nil, append_assoc, take_all}
use Rattle.reader.specs.declared.arena.Arena.{Arena}
use Rattle.reader.specs.declared.parsing.Part.{Part}
use Rattle.model.specs.Grammar.{access, names, args, text, IsLine}
use Rattle.reader.specs.Walk.{start, bracket, equals, want, have, tail, run, Open}
use Rattle.model.specs.Conditions.{Ungrammatical}
use Rattle.reader.specs.Reader.{Spans, Args, Head, Order, Failed, AnArgs, ATail, AHead, APart}
use Rattle.reader.specs.Order.{PartsFirst}
use Rattle.reader.specs.Parts.{Got}
use Rattle.reader.specs.Whole.{Parses}
use Rattle.reader.proofs.Walks.{then, no_start, no_equals, no_end, by_args, by_tree, refuse}
use Rattle.reader.proofs.Ordered.{parts_first}
use Rattle.reader.proofs.Fails.{spans_none, spans_byte, spans_part, spans_length, fails_here, fails_in}

-- "R" args "="
module _ (s : List ℕ) where
  pub no_head : (0 < length s → get_or s 0 0 ≡ 82 → ⊥) → Failed AHead (λ (u : Unit {0}). start) s 0 0
  no_head nay =
      fails_here s 0 AHead (λ (u : Unit {0}). start) 0 [] (82 ∷ (40 ∷ (41 ∷ (61 ∷ [])))) (λ u. start) (spans_none s 0 (omega arith)) ([], tt, refl) (λ u. refl) (λ h u. tt)
      (λ lt u. no_start (get_or s 0 0) (nay lt))

  module _ (lt : 0 < length s) (is : get_or s 0 0 ≡ 82) where
    lettered : Spans s 0 1 (82 ∷ [])
    lettered = spans_byte s 0 0 82 [] (spans_none s 0 (omega arith)) lt is

    pub head_in_args : (p : ℕ) → Failed AnArgs bracket s 1 p → Failed AHead (λ (u : Unit {0}). start) s 0 p
    head_in_args p x =
        fails_in s 0 AHead (λ (u : Unit {0}). start) AnArgs bracket 1 p (82 ∷ []) (61 ∷ []) (λ u. equals) lettered
        (λ w r. (r.0, r.1, ap (λ y. 82 ∷ (y ++ (61 ∷ []))) r.2)) (λ u. refl) x

    module _ (e : ℕ) (r : Args s 1 e) where
      named : Spans s 0 e (82 ∷ args r.vars)
      named = spans_part s 0 1 e (82 ∷ []) (args r.vars) lettered r.spans

      pub no_sign : (e < length s → get_or s e 0 ≡ 61 → ⊥) → Failed AHead (λ (u : Unit {0}). start) s 0 e
      no_sign nay =
          fails_here s 0 AHead (λ (u : Unit {0}). start) e (82 ∷ args r.vars) (61 ∷ []) (λ u. equals) named (r.vars, r.good, refl)
          (λ u. by_args equals r.vars r.good) (λ h u. tt) (λ on u. no_equals (get_or s e 0) (nay on))

      pub a_head : e < length s → get_or s e 0 ≡ 61 → Head s (e + 1)
      a_head on sign = record { vars = r.vars; good = r.good; spans = spans_byte s 0 e 61 (82 ∷ args r.vars) named on sign }

-- the line
refused : (s : List ℕ) (p : ℕ) → length s ≤ 256 → Failed IsLine (λ (u : Unit {0}). start) s 0 p → Ungrammatical s p
refused s p short x =
    inr (
      short,
      refuse s p x.within
          (x.rest, subst (λ w. IsLine (w ++ x.rest)) (sym x.spells) x.begins)
          (λ lt. ap (run start) x.longer ∙ x.stuck lt tt)
          (λ le. subst (λ w. Open (run start w)) (sym x.longer ∙ take_all (p + 1) s (omega arith)) (x.opens tt)),
    )

module _ (s : List ℕ) (short : length s ≤ 256) where
  pub bad_head : (p : ℕ) → Failed AHead (λ (u : Unit {0}). start) s 0 p → Ungrammatical s p
  bad_head p x =
      let z : List ℕ = 65 ∷ (40 ∷ (41 ∷ (59 ∷ []))) in
      refused s p short
      (fails_in s 0 IsLine (λ (u : Unit {0}). start) AHead (λ (u : Unit {0}). start) 0 p [] z (λ u. u) (spans_none s 0 (omega arith))
      (λ w r. (record { left = r.0; body = access 65 []; order = [] }, record { left = r.1; body = (refl, tt); order = tt }, sym (append_assoc (82 ∷ args r.0) (61 ∷ []) z) ∙ ap (λ y. y ++ z) r.2))
      (λ u. refl) x)

  module _ (e : ℕ) (h : Head s e) where
    fronts : run start ((82 ∷ args h.vars) ++ (61 ∷ [])) ≡ want 0
    fronts = then start equals (82 ∷ args h.vars) (61 ∷ []) (by_args equals h.vars h.good)

    pub bad_sum : (p : ℕ) → Failed (APart 2) want s e p → Ungrammatical s p
    bad_sum p x =
        refused s p short
        (fails_in s 0 IsLine (λ (u : Unit {0}). start) (APart 2) want e p ((82 ∷ args h.vars) ++ (61 ∷ [])) (59 ∷ []) (λ u. 0) h.spans
        (λ w r. (
          record { left = h.vars; body = r.0; order = [] },
          record { left = h.good; body = r.1; order = tt },
          ap (λ y. (82 ∷ args h.vars) ++ (61 ∷ (y ++ (59 ∷ [])))) r.3 ∙ sym (append_assoc (82 ∷ args h.vars) (61 ∷ []) (w ++ (59 ∷ []))),
        ))
        (λ u. fronts) x)

    module _ (a b : Arena) (p : Part) (g : Got 2 2 s e a b p) where
      summed : Spans s 0 p.end (((82 ∷ args h.vars) ++ (61 ∷ [])) ++ text g.read.tree)
      summed = spans_part s 0 e p.end ((82 ∷ args h.vars) ++ (61 ∷ [])) (text g.read.tree) h.spans g.read.spans

      sums : run start (((82 ∷ args h.vars) ++ (61 ∷ [])) ++ text g.read.tree) ≡ have 0
      sums = then start (want 0) ((82 ∷ args h.vars) ++ (61 ∷ [])) (text g.read.tree) fronts ∙ by_tree g.read.tree g.read.good 0

      -- the text of the line with ws behind the semicolon
      line_text : (ws : List ℕ) → (82 ∷ args h.vars) ++ (61 ∷ (text g.read.tree ++ (59 ∷ ws))) ≡ (((82 ∷ args h.vars) ++ (61 ∷ [])) ++ text g.read.tree) ++ (59 ∷ ws)
      line_text ws =
          sym (append_assoc ((82 ∷ args h.vars) ++ (61 ∷ [])) (text g.read.tree) (59 ∷ ws) ∙ append_assoc (82 ∷ args h.vars) (61 ∷ []) (text g.read.tree ++ (59 ∷ ws)))

      pub no_semicolon : (p.end < length s → get_or s p.end 0 ≡ 59 → ⊥) → Ungrammatical s p.end
      no_semicolon nay =
          let r = g.read in
          refused s p.end short
          (fails_here s 0 IsLine (λ (u : Unit {0}). start) p.end (((82 ∷ args h.vars) ++ (61 ∷ [])) ++ text r.tree) (59 ∷ []) (λ u. have 0) summed
          (record { left = h.vars; body = r.tree; order = [] }, record { left = h.good; body = r.good; order = tt }, line_text [])
          (λ u. sums) (λ le u. tt) (λ on u. no_end (get_or s p.end 0) (r.stops.times (omega arith) on) (r.stops.plus (omega arith) on) (nay on)))

      module _ (on : p.end < length s) (is : get_or s p.end 0 ≡ 59) where
        ended : Spans s 0 (p.end + 1) ((((82 ∷ args h.vars) ++ (61 ∷ [])) ++ text g.read.tree) ++ (59 ∷ []))
        ended = spans_byte s 0 p.end 59 (((82 ∷ args h.vars) ++ (61 ∷ [])) ++ text g.read.tree) summed on is

        pub bad_order : (q : ℕ) → Failed ATail (λ (u : Unit {0}). tail) s (p.end + 1) q → Ungrammatical s q
        bad_order q x =
            let r = g.read in
            let f : List ℕ = ((82 ∷ args h.vars) ++ (61 ∷ [])) ++ text r.tree in
            refused s q short
            (fails_in s 0 IsLine (λ (u : Unit {0}). start) ATail (λ (u : Unit {0}). tail) (p.end + 1) q (f ++ (59 ∷ [])) [] (λ u. u) ended
            (λ w y. (
              record { left = h.vars; body = r.tree; order = y.0 },
              record { left = h.good; body = r.good; order = y.1 },
              line_text (names y.0) ∙ ap (λ v. f ++ (59 ∷ v)) (y.2 ∙ sym (append-nil w)) ∙ sym (append_assoc f (59 ∷ []) (w ++ [])),
            ))
            (λ u. then start (have 0) f (59 ∷ []) sums) x)

        pub a_line : a.len ≡ 0 → Order s (p.end + 1) → Parses s (record { arena = b; root = p.root; body = e; order = p.end + 1 })
        a_line none y =
            let r = g.read in
            let f : List ℕ = ((82 ∷ args h.vars) ++ (61 ∷ [])) ++ text r.tree in
            let whole = spans_part s 0 (p.end + 1) (length s) (f ++ (59 ∷ [])) (names y.vars) ended y.spans in
            let from : e ≡ length (args h.vars) + 2 = spans_length s 0 e ((82 ∷ args h.vars) ++ (61 ∷ [])) h.spans ∙ simp length-append (omega arith) in (
              record { left = h.vars; body = r.tree; order = y.vars },
              record {
                formed = record { left = h.good; body = r.good; order = y.good };
                spelled = line_text (names y.vars) ∙ sym (append_assoc f (59 ∷ []) (names y.vars)) ∙ sym whole.spells ∙ take_all (length s) s (omega arith);
                short = short;
              },
              record {
                body = from;
                order = omega (arith, from, spans_length s e p.end (text r.tree) r.spans);
                below = r.below;
                room = omega (arith, g.grown.few, r.spans.within, none);
                holds = r.holds;
              },
            )

        pub ordered_line : a.len ≡ 0 → PartsFirst (take b.len b.nodes)
        ordered_line none = parts_first b (g.grown.first (λ i lt. absurd (omega (arith, none))))
