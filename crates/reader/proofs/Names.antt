-- Lists of variables and arguments. Assumes nothing.
use Rattle.std.proofs.Common.{◌≡◌, ℕ, ◌+◌, ◌-◌, ◌*◌, ◌/◌, ◌<◌, ◌≤◌, true, false, List, [], ◌∷◌, ◌++◌, length, get_or, sym, refl, ap, ◌∙◌, subst, arith, length-append}
use Rattle.std.proofs.lemmas.List.{append-nil}
use Rattle.model.specs.Grammar.{is_var, commas, args, Vars}
use Rattle.reader.specs.Walk.{Lists, run, bracket, first, more, tail, tailed}
use Rattle.reader.specs.Reader.{Spans, Rest, Args, Order, Failed, ARest, AnArgs, ATail}
use Rattle.reader.proofs.Walks.{then, in_args, in_tail, var_tail, no_bracket, no_first, no_more, no_tail, no_tailed, by_commas, by_names}
use Rattle.reader.proofs.Fails.{spans_none, spans_at, spans_byte, spans_part, fails_here, fails_in}

commas_push : (vs : List ℕ) (v : ℕ) → commas (vs ++ (v ∷ [])) ≡ (commas vs ++ (44 ∷ [])) ++ (v ∷ [])
commas_push [] v = refl
commas_push (w ∷ vs) v = ap (λ x. 44 ∷ (w ∷ x)) (commas_push vs v)

vars_push : (vs : List ℕ) (v : ℕ) → Vars vs → is_var v ≡ true → Vars (vs ++ (v ∷ []))
vars_push [] v g e = (e, tt)
vars_push (w ∷ vs) v g e = (g.0, vars_push vs v g.1 e)

commas_length : (vs : List ℕ) → length (commas vs) ≡ 2 * length vs
commas_length [] = refl
commas_length (v ∷ vs) = let h = commas_length vs in omega arith

pub args_long : (vs : List ℕ) → 2 ≤ length (args vs)
args_long vs = simp length-append (omega arith)

-- how many variables there are, from how long the arguments are
pub args_count : (vs : List ℕ) → (length (args vs) - 1) / 2 ≡ length vs
args_count [] = refl
args_count (v ∷ vs) = let h = commas_length vs in simp length-append (omega arith)

-- a comma stands behind a list
module _ (s : List ℕ) (at e : ℕ) (vs : List ℕ) (g : Vars vs) (h : Spans s at e (commas vs)) (lt : e < length s) (is : get_or s e 0 ≡ 44) where
  pub rest_fails : (e + 1 < length s → is_var (get_or s (e + 1) 0) ≡ false) → Failed ARest (λ (l : Lists). l.m) s at (e + 1)
  rest_fails nay =
      fails_here s at ARest (λ (l : Lists). l.m) (e + 1) (commas vs ++ (44 ∷ [])) (97 ∷ []) (λ l. l.n)
      (spans_byte s at e 44 (commas vs) h lt is)
      (vs ++ (97 ∷ []), vars_push vs 97 g refl, commas_push vs 97)
      (λ l. then l.m l.m (commas vs) (44 ∷ []) (by_commas l vs g) ∙ l.comma)
      (λ le l. l.opens)
      (λ on l. l.other (get_or s (e + 1) 0) (nay on))

  pub rest_more : (e + 1 < length s) → is_var (get_or s (e + 1) 0) ≡ true → (ws : List ℕ) × Vars ws × Spans s at (e + 2) (commas ws)
  rest_more on var =
      let v = get_or s (e + 1) 0 in (
        vs ++ (v ∷ []),
        vars_push vs v g var,
        subst (Spans s at (e + 2)) (sym (commas_push vs v))
            (spans_at s at (e + 1 + 1) (e + 2) ((commas vs ++ (44 ∷ [])) ++ (v ∷ [])) (omega arith) (spans_byte s at (e + 1) v (commas vs ++ (44 ∷ [])) (spans_byte s at e 44 (commas vs) h lt is) on refl)),
      )

pub no_args : (s : List ℕ) (at : ℕ) → at ≤ length s → (at < length s → get_or s at 0 ≡ 40 → ⊥) → Failed AnArgs bracket s at at
no_args s at le nay =
    fails_here s at AnArgs bracket at [] (40 ∷ (41 ∷ [])) bracket (spans_none s at le) ([], tt, refl) (λ q. refl) (λ h q. tt) (λ lt q. no_bracket q (get_or s at 0) (nay lt))

-- a bracket opens arguments
module _ (s : List ℕ) (at : ℕ) (lt : at < length s) (is : get_or s at 0 ≡ 40) where
  opened : Spans s at (at + 1) (40 ∷ [])
  opened = spans_byte s at at 40 [] (spans_none s at (omega arith)) lt is

  pub empty_args : at + 1 < length s → get_or s (at + 1) 0 ≡ 41 → Args s at (at + 2)
  empty_args on closes = record {
    vars = [];
    good = tt;
    spans = spans_at s at (at + 1 + 1) (at + 2) (40 ∷ (41 ∷ [])) (omega arith) (spans_byte s at (at + 1) 41 (40 ∷ []) opened on closes);
  }

  pub no_first_var : (at + 1 < length s → get_or s (at + 1) 0 ≡ 41 → ⊥) → (at + 1 < length s → is_var (get_or s (at + 1) 0) ≡ false) → Failed AnArgs bracket s at (at + 1)
  no_first_var closes var =
      fails_here s at AnArgs bracket (at + 1) (40 ∷ []) (41 ∷ []) first opened ([], tt, refl) (λ q. refl) (λ h q. tt) (λ lt q. no_first q (get_or s (at + 1) 0) (var lt) (closes lt))

  module _ (more1 : at + 1 < length s) (var : is_var (get_or s (at + 1) 0) ≡ true) where
    named : Spans s at (at + 2) (40 ∷ (get_or s (at + 1) 0 ∷ []))
    named = spans_at s at (at + 1 + 1) (at + 2) (40 ∷ (get_or s (at + 1) 0 ∷ [])) (omega arith) (spans_byte s at (at + 1) (get_or s (at + 1) 0) (40 ∷ []) opened more1 refl)

    pub args_in_rest : (p : ℕ) → Failed ARest (λ (l : Lists). l.m) s (at + 2) p → Failed AnArgs bracket s at p
    args_in_rest p x =
        let b = get_or s (at + 1) 0 in
        fails_in s at AnArgs bracket ARest (λ (l : Lists). l.m) (at + 2) p (40 ∷ (b ∷ [])) (41 ∷ []) in_args named
        (λ w r. (b ∷ r.0, (var, r.1), ap (λ y. 40 ∷ (b ∷ (y ++ (41 ∷ [])))) r.2))
        (λ q. by_names q b [] var tt) x

    module _ (e : ℕ) (r : Rest s (at + 2) e) where
      listed : Spans s at e (40 ∷ (get_or s (at + 1) 0 ∷ commas r.vars))
      listed = spans_part s at (at + 2) e (40 ∷ (get_or s (at + 1) 0 ∷ [])) (commas r.vars) named r.spans

      pub args_unclosed : (e < length s → get_or s e 0 ≡ 41 → ⊥) → Failed AnArgs bracket s at e
      args_unclosed nay =
          let b = get_or s (at + 1) 0 in
          fails_here s at AnArgs bracket e (40 ∷ (b ∷ commas r.vars)) (41 ∷ []) more listed
          (b ∷ r.vars, (var, r.good), refl) (λ q. by_names q b r.vars var r.good) (λ h q. tt)
          (λ lt q. no_more q (get_or s e 0) (r.stops lt) (nay lt))

      pub args_closed : e < length s → get_or s e 0 ≡ 41 → Args s at (e + 1)
      args_closed lt closes = record {
        vars = get_or s (at + 1) 0 ∷ r.vars;
        good = (var, r.good);
        spans = spans_byte s at e 41 (40 ∷ (get_or s (at + 1) 0 ∷ commas r.vars)) listed lt closes;
      }

-- behind the semicolon
module _ (s : List ℕ) (at : ℕ) (lt : at < length s) where
  pub no_order : is_var (get_or s at 0) ≡ false → Failed ATail (λ (u : Unit {0}). tail) s at at
  no_order var =
      fails_here s at ATail (λ (u : Unit {0}). tail) at [] [] (λ u. tail) (spans_none s at (omega arith)) ([], tt, refl) (λ u. refl) (λ le. absurd (omega arith)) (λ h u. no_tail (get_or s at 0) var)

  module _ (var : is_var (get_or s at 0) ≡ true) where
    one : Spans s at (at + 1) (get_or s at 0 ∷ [])
    one = spans_byte s at at (get_or s at 0) [] (spans_none s at (omega arith)) lt refl

    pub order_in_rest : (p : ℕ) → Failed ARest (λ (l : Lists). l.m) s (at + 1) p → Failed ATail (λ (u : Unit {0}). tail) s at p
    order_in_rest p x =
        let b = get_or s at 0 in
        fails_in s at ATail (λ (u : Unit {0}). tail) ARest (λ (l : Lists). l.m) (at + 1) p (b ∷ []) [] (λ u. in_tail) one
        (λ w r. (b ∷ r.0, (var, r.1), ap (λ y. b ∷ y) (r.2 ∙ sym (append-nil w))))
        (λ u. var_tail b var) x

    module _ (e : ℕ) (r : Rest s (at + 1) e) where
      several : Spans s at e (get_or s at 0 ∷ commas r.vars)
      several = spans_part s at (at + 1) e (get_or s at 0 ∷ []) (commas r.vars) one r.spans

      pub order_ends : e < length s → Failed ATail (λ (u : Unit {0}). tail) s at e
      order_ends h =
          let b = get_or s at 0 in
          fails_here s at ATail (λ (u : Unit {0}). tail) e (b ∷ commas r.vars) [] (λ u. tailed) several
          (b ∷ r.vars, (var, r.good), sym (append-nil (b ∷ commas r.vars)))
          (λ u. ap (λ q. run q (commas r.vars)) (var_tail b var) ∙ by_commas in_tail r.vars r.good)
          (λ le. absurd (omega arith)) (λ lt u. no_tailed (get_or s e 0) (r.stops lt))

      pub order_all : length s ≤ e → Order s at
      order_all h = record { vars = get_or s at 0 ∷ r.vars; good = (var, r.good); spans = spans_at s at e (length s) (get_or s at 0 ∷ commas r.vars) (omega (arith, r.spans.within)) several }
