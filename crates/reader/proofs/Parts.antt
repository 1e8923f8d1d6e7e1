-- Sums, products and factors. Assumes nothing.
use Rattle.std.proofs.Common.{◌≡◌, ℕ, suc, ◌+◌, ◌-◌, ◌/◌, ◌<◌, ◌≤◌, true, false, List, [], ◌∷◌, ◌++◌, length, get_or, sym, refl, ap, ◌∙◌, subst, arith}
use Rattle.std.proofs.lemmas.List.{append-nil, append_assoc}
use Rattle.reader.specs.declared.node.Node.{Node}
use Rattle.reader.specs.declared.node.Node.TheVariants.{Access, Group, Times, Plus}
use Rattle.reader.specs.declared.arena.Arena.{Arena}
use Rattle.reader.specs.declared.parsing.Part.{Part}
use Rattle.model.specs.Grammar.{is_slot, Tree, access, group, times, plus, args, text, height, Grammatical}
use Rattle.reader.specs.Walk.{bracket, want, have, step}
use Rattle.reader.specs.Reader.{Spans, Args, Failed, AnArgs, APart}
use Rattle.reader.specs.Order.{Before}
use Rattle.reader.specs.Nodes.{node, Holds, Pushed}
use Rattle.reader.specs.Parts.{Grown, Stops, Read, Got}
use Rattle.reader.proofs.Walks.{then, times_goes, plus_goes, slot_goes, no_want, no_close, by_tree}
use Rattle.reader.proofs.Fails.{spans_none, spans_byte, spans_part, spans_length, fails_here, fails_in}
use Rattle.reader.proofs.Names.{args_long, args_count}
use Rattle.reader.proofs.Ordered.{pushed_first, before_access, before_group, before_times, before_plus}

-- a tree stays where the nodes up to it stay
pub holds_on : (t : Tree) (at : ℕ) (ns ms : List Node) (n i : ℕ) → ((j : ℕ) → j < n → node ms j ≡ node ns j) → i < n → Holds t at ns i → Holds t at ms i
holds_on (access l vs) at ns ms n i same lt h = same i lt ∙ h
holds_on (group t) at ns ms n i same lt h = (h.0, h.1, same i lt ∙ h.2, holds_on t (at + 1) ns ms n h.0 same (omega (arith, h.1)) h.3)
holds_on (times a b) at ns ms n i same lt h =
    (h.0, h.1, h.2, h.3, same i lt ∙ h.4, holds_on a at ns ms n h.0 same (omega (arith, h.2)) h.5, holds_on b (at + length (text a) + 1) ns ms n h.1 same (omega (arith, h.3)) h.6)
holds_on (plus a b) at ns ms n i same lt h =
    (h.0, h.1, h.2, h.3, same i lt ∙ h.4, holds_on a at ns ms n h.0 same (omega (arith, h.2)) h.5, holds_on b (at + length (text a) + 1) ns ms n h.1 same (omega (arith, h.3)) h.6)

-- a part that nothing goes on with, and nodes that were added twice
pub read_stops : {k m n : ℕ} {s : List ℕ} {at : ℕ} {a : Arena} {p : Part} → Read k m s at a p → Stops n s p.end → Read k n s at a p
read_stops r h = record { tree = r.tree; good = r.good; low = r.low; spans = r.spans; forth = r.forth; stops = h; holds = r.holds; below = r.below }

pub grown_on : {a b c : Arena} {at d e : ℕ} → Grown a at b d → Grown b d c e → Grown a at c e
grown_on g h = record {
  few = omega (arith, g.few, h.few);
  more = omega (arith, g.more, h.more);
  same = λ i lt. h.same i (omega (arith, g.more)) ∙ g.same i lt;
  first = λ f. h.first (g.first f);
}

-- an operator: what it joins is at most of height k on the left and of height j on the right
pub record Operator (k j sep : ℕ) (mk : ℕ → ℕ → ℕ → Node) : Type 0 where
  pub join : Tree → Tree → Tree
  pub spells : (a b : Tree) → text (join a b) ≡ text a ++ (sep ∷ text b)
  pub good : (a b : Tree) → Grammatical a → height a ≤ k → Grammatical b → height b ≤ j → Grammatical (join a b)
  pub low : (a b : Tree) → height (join a b) ≤ k
  pub holds : (a b : Tree) (at : ℕ) (ns : List Node) (i m n : ℕ) → m < i → n < i → node ns i ≡ mk (at + length (text a)) m n → Holds a at ns m → Holds b (at + length (text a) + 1) ns n → Holds (join a b) at ns i
  pub goes : (d : ℕ) → step (have d) sep ≡ want d
  pub parts : (p m n i : ℕ) → m < i → n < i → Before (mk p m n) i

pub a_times : Operator 1 0 42 (λ p. Times)
a_times = record {
  join = times;
  spells = λ a b. refl;
  good = λ a b ga la gb lb. (ga, la, gb, lb);
  low = λ a b. omega arith;
  holds = λ a b at ns i m n lm ln is ha hb. (m, n, lm, ln, is, ha, hb);
  goes = times_goes;
  parts = λ p m n i. before_times i m n;
}

pub a_plus : Operator 2 1 43 Plus
a_plus = record {
  join = plus;
  spells = λ a b. refl;
  good = λ a b ga la gb lb. (ga, gb, lb);
  low = λ a b. omega arith;
  holds = λ a b at ns i m n lm ln is ha hb. (m, n, lm, ln, is, ha, hb);
  goes = plus_goes;
  parts = λ p m n i. before_plus i p m n;
}

-- behind a part stands an operator
module _ {k j m sep : ℕ} {mk : ℕ → ℕ → ℕ → Node} (o : Operator k j sep mk) (s : List ℕ) (at : ℕ) (a : Arena) (left : Part) (l : Read k m s at a left) (lt : left.end < length s) (is : get_or s left.end 0 ≡ sep) where
  behind : Spans s at (left.end + 1) (text l.tree ++ (sep ∷ []))
  behind = spans_byte s at left.end sep (text l.tree) l.spans lt is

  pub join_read : (b c : Arena) (right : Part) (root : ℕ) → Got j m s (left.end + 1) a b right → Pushed b (mk left.end left.root right.root) c root → Read k m s at c (record { end = right.end; root = root })
  join_read b c right root g p =
      let r = g.read in
      let end : left.end ≡ at + length (text l.tree) = spans_length s at left.end (text l.tree) l.spans in
      let place : left.end + 1 ≡ at + length (text l.tree) + 1 = ap (λ x. x + 1) end in
      record {
        tree = o.join l.tree r.tree;
        good = o.good l.tree r.tree l.good l.low r.good r.low;
        low = o.low l.tree r.tree;
        spans = subst (Spans s at right.end) (append_assoc (text l.tree) (sep ∷ []) (text r.tree) ∙ sym (o.spells l.tree r.tree))
            (spans_part s at (left.end + 1) right.end (text l.tree ++ (sep ∷ [])) (text r.tree) behind r.spans);
        forth = omega (arith, l.forth, r.forth);
        stops = r.stops;
        holds = o.holds l.tree r.tree at c.nodes root left.root right.root (omega (arith, l.below, g.grown.more, p.place)) (omega (arith, r.below, p.place)) (p.here ∙ ap (λ x. mk x left.root right.root) end)
            (holds_on l.tree at a.nodes c.nodes a.len left.root (λ i h. p.same i (omega (arith, g.grown.more)) ∙ g.grown.same i h) l.below l.holds)
            (subst (λ x. Holds r.tree x c.nodes right.root) place (holds_on r.tree (left.end + 1) b.nodes c.nodes b.len right.root p.same r.below r.holds));
        below = omega (arith, p.place, p.len);
      }

  pub join_grown : (z b c : Arena) (e : ℕ) (right : Part) (root : ℕ) → Grown z e a left.end → Got j m s (left.end + 1) a b right → Pushed b (mk left.end left.root right.root) c root → Grown z e c right.end
  join_grown z b c e right root h g p = record {
    few = omega (arith, h.few, g.grown.few, p.len);
    more = omega (arith, h.more, g.grown.more, p.len);
    same = λ i lt. p.same i (omega (arith, h.more, g.grown.more)) ∙ g.grown.same i (omega (arith, h.more)) ∙ h.same i lt;
    first = λ f. pushed_first p (o.parts left.end left.root right.root b.len (omega (arith, l.below, g.grown.more)) g.read.below) (g.grown.first (h.first f));
  }

  pub join_failed : (p : ℕ) → Failed (APart j) want s (left.end + 1) p → Failed (APart k) want s at p
  join_failed p x =
      fails_in s at (APart k) want (APart j) want (left.end + 1) p (text l.tree ++ (sep ∷ [])) [] (λ d. d) behind
      (λ w r. (
        o.join l.tree r.0,
        o.good l.tree r.0 l.good l.low r.1 r.2,
        o.low l.tree r.0,
        o.spells l.tree r.0 ∙ ap (λ y. text l.tree ++ (sep ∷ y)) (r.3 ∙ sym (append-nil w)) ∙ sym (append_assoc (text l.tree) (sep ∷ []) (w ++ [])),
      ))
      (λ d. then (want d) (have d) (text l.tree) (sep ∷ []) (by_tree l.tree l.good d) ∙ o.goes d) x

-- a factor needs a letter or a bracket
pub no_factor : (s : List ℕ) (at : ℕ) → at ≤ length s → (at < length s → is_slot (get_or s at 0) ≡ false) → (at < length s → get_or s at 0 ≡ 40 → ⊥) → Failed (APart 0) want s at at
no_factor s at le slot nay =
    fails_here s at (APart 0) want at [] (65 ∷ (40 ∷ (41 ∷ []))) want (spans_none s at le) (access 65 [], (refl, tt), omega arith, refl) (λ d. refl) (λ h d. tt)
    (λ lt d. no_want d (get_or s at 0) (slot lt) (nay lt))

-- a letter stands at `at`
module _ (s : List ℕ) (at : ℕ) (lt : at < length s) (slot : is_slot (get_or s at 0) ≡ true) where
  lettered : Spans s at (at + 1) (get_or s at 0 ∷ [])
  lettered = spans_byte s at at (get_or s at 0) [] (spans_none s at (omega arith)) lt refl

  pub in_access : (p : ℕ) → Failed AnArgs bracket s (at + 1) p → Failed (APart 0) want s at p
  in_access p x =
      let b = get_or s at 0 in
      fails_in s at (APart 0) want AnArgs bracket (at + 1) p (b ∷ []) [] have lettered
      (λ w r. (access b r.0, (slot, r.1), omega arith, ap (λ y. b ∷ y) (r.2 ∙ sym (append-nil w))))
      (λ d. slot_goes d b slot) x

  module _ (e : ℕ) (r : Args s (at + 1) e) where
    pub access_long : 2 ≤ e - at
    access_long = omega (arith, spans_length s (at + 1) e (args r.vars) r.spans, args_long r.vars)

    count : (e - at - 2) / 2 ≡ length r.vars
    count =
        let h = spans_length s (at + 1) e (args r.vars) r.spans in
        let long = args_long r.vars in
        let same : e - at - 2 ≡ length (args r.vars) - 1 = omega arith in
        ap (λ x. x / 2) same ∙ args_count r.vars

    pub an_access : (a b : Arena) (root : ℕ) → Pushed a (Access at (get_or s at 0 - 65) ((e - at - 2) / 2)) b root → Got 0 0 s at a b (record { end = e; root = root })
    an_access a b root p = record {
      read = record {
        tree = access (get_or s at 0) r.vars;
        good = (slot, r.good);
        low = omega arith;
        spans = spans_part s at (at + 1) e (get_or s at 0 ∷ []) (args r.vars) lettered r.spans;
        forth = omega (arith, r.spans.forth);
        stops = record { times = λ n. absurd (omega arith); plus = λ n. absurd (omega arith) };
        holds = p.here ∙ ap (Access at (get_or s at 0 - 65)) count;
        below = omega (arith, p.place, p.len);
      };
      grown = record { few = omega (arith, p.len, r.spans.forth); more = omega (arith, p.len); same = p.same; first = pushed_first p (before_access a.len at (get_or s at 0 - 65) ((e - at - 2) / 2)) };
    }

-- a bracket opens at `at`
module _ (s : List ℕ) (at : ℕ) (lt : at < length s) (is : get_or s at 0 ≡ 40) where
  opened : Spans s at (at + 1) (40 ∷ [])
  opened = spans_byte s at at 40 [] (spans_none s at (omega arith)) lt is

  pub in_group : (p : ℕ) → Failed (APart 2) want s (at + 1) p → Failed (APart 0) want s at p
  in_group p x =
      fails_in s at (APart 0) want (APart 2) want (at + 1) p (40 ∷ []) (41 ∷ []) suc opened
      (λ w r. (group r.0, r.1, omega arith, ap (λ y. 40 ∷ (y ++ (41 ∷ []))) r.3)) (λ d. refl) x

  module _ (a b : Arena) (inner : Part) (g : Got 2 2 s (at + 1) a b inner) where
    filled : Spans s at inner.end (40 ∷ text g.read.tree)
    filled = spans_part s at (at + 1) inner.end (40 ∷ []) (text g.read.tree) opened g.read.spans

    pub unclosed : (inner.end < length s → get_or s inner.end 0 ≡ 41 → ⊥) → Failed (APart 0) want s at inner.end
    unclosed nay =
        let r = g.read in
        fails_here s at (APart 0) want inner.end (40 ∷ text r.tree) (41 ∷ []) (λ d. have (suc d)) filled (group r.tree, r.good, omega arith, refl)
        (λ d. by_tree r.tree r.good (suc d)) (λ h d. tt)
        (λ on d. no_close d (get_or s inner.end 0) (r.stops.times (omega arith) on) (r.stops.plus (omega arith) on) (nay on))

    pub a_group : (c : Arena) (root : ℕ) → inner.end < length s → get_or s inner.end 0 ≡ 41 → Pushed b (Group at inner.root) c root → Got 0 0 s at a c (record { end = inner.end + 1; root = root })
    a_group c root on closes p =
        let r = g.read in
        record {
          read = record {
            tree = group r.tree;
            good = r.good;
            low = omega arith;
            spans = spans_byte s at inner.end 41 (40 ∷ text r.tree) filled on closes;
            forth = omega (arith, r.forth);
            stops = record { times = λ n. absurd (omega arith); plus = λ n. absurd (omega arith) };
            holds = (inner.root, omega (arith, r.below, p.place), p.here, holds_on r.tree (at + 1) b.nodes c.nodes b.len inner.root p.same r.below r.holds);
            below = omega (arith, p.place, p.len);
          };
          grown = record {
            few = omega (arith, g.grown.few, p.len);
            more = omega (arith, g.grown.more, p.len);
            same = λ i h. p.same i (omega (arith, g.grown.more)) ∙ g.grown.same i h;
            first = λ f. pushed_first p (before_group b.len at inner.root r.below) (g.grown.first f);
          };
        }
