-- A property of the commands of a term: where each kind of command has it, all commands of the term have it. Assumes nothing.
use Rattle.std.proofs.Common.{◌≡◌, ℕ, ◌+◌, true, cond, List, [], ◌∷◌, map, reverse, length, get_or}
use mathlib.Core.List.{tail}
use Rattle.std.specs.List.{AllByRecursion}
use Rattle.std.proofs.lemmas.List.{length-map}
use Rattle.std.proofs.lemmas.Bool.{cond_both}
use Rattle.model.specs.Tensors.{has}
use Rattle.model.specs.Commands.{Command, ROOT, SCAN, MEET, JOIN, ALIGN, REPEAT, LOAD, MUL, ADD, SUM, WRITE}
use Rattle.model.specs.Terms.{Access, Expr, Term, occurs, variables}
use Rattle.model.specs.Lowering.{Lowered, Lower, pure, then, emit, for_each, merge, Cursor, Scanned, no_scan, place, start, scan, advance, variable, loop, load, evaluate, sums, write, lower_term}
use Rattle.model.proofs.Pieces.{Bears, Any, pure_bears, then_bears, emit_bears, each_bears, merge_bears}

-- Each kind of command that the lowering of a term writes has P, where its accesses are Held: a SCAN and a LOAD name the slot of an access, and a WRITE has a key for
-- each left variable.
pub record EachCommand (P : Command → Type 0) (Held : Access → Type 0) (left : List ℕ) : Type 0 where
  pub root : (out : ℕ) → P (ROOT out)
  pub scan : (a : Access) → Held a → (v : ℕ) → has a.vars v ≡ true → (r c k : ℕ) → P (SCAN a.slot (place a.vars v) r c k)
  pub meet : (a b out : ℕ) → P (MEET a b out)
  pub join : (a b out : ℕ) → P (JOIN a b out)
  pub align : (c r z out : ℕ) → P (ALIGN c r z out)
  pub repeat : (r z out : ℕ) → P (REPEAT r z out)
  pub load : (a : Access) → Held a → (r out : ℕ) → P (LOAD a.slot r out)
  pub mul : (a b out : ℕ) → P (MUL a b out)
  pub add : (a b out : ℕ) → P (ADD a b out)
  pub sum : (a out : ℕ) → P (SUM a out)
  pub write : (d v : ℕ) (zs ks : List ℕ) → length ks ≡ length left → P (WRITE d v zs ks)

module _ (P : Command → Type 0) (Held : Access → Type 0) (left : List ℕ) (is : EachCommand P Held left) where
  abbrev Begun : Cursor → Type 0
  Begun c = Held c.of

  abbrev Seen : Scanned → Type 0
  Seen s = Held s.of

  start_bears : (a : Access) → Held a → Bears P Begun (start a)
  start_bears a h = then_bears P Any Begun (emit ROOT) (λ r. pure (record { of = a; ref = r })) (emit_bears P ROOT is.root) (λ r g. pure_bears P Begun (record { of = a; ref = r }) h)

  scan_bears : (v : ℕ) (c : Cursor) → Begun c → Bears P Seen (scan v c)
  scan_bears v c h n =
      cond_both (has c.of.vars v)
      (
      record {
        commands = SCAN c.of.slot (place c.of.vars v) c.ref n (n + 1) ∷ [];
        next = n + 2;
        result = record { of = c.of; ref = c.ref; crd = n; children = n + 1 };
      }
      )
      (record { commands = []; next = n; result = record { of = c.of; ref = c.ref; crd = 0; children = 0 } })
      (λ (r : Lowered Scanned). AllByRecursion P r.commands × Seen r.result)
      (λ e. ((is.scan c.of h v e c.ref n (n + 1), tt), h))
      (λ e. (tt, h))

  advance_bears : (v z : ℕ) (s : Scanned) → Seen s → Bears P Begun (advance v z s)
  advance_bears v z s h =
      let c : ℕ → Command = λ out. cond (has s.of.vars v) (ALIGN s.crd s.children z out) (REPEAT s.ref z out) in
      then_bears P Any Begun (emit c) (λ r. pure (record { of = s.of; ref = r }))
      (emit_bears P c (λ out. cond_both (has s.of.vars v) (ALIGN s.crd s.children z out) (REPEAT s.ref z out) P (λ e. is.align s.crd s.children z out) (λ e. is.repeat s.ref z out)))
      (λ r g. pure_bears P Begun (record { of = s.of; ref = r }) h)

  -- a result whose cursors are of such accesses
  abbrev Moved : {A : Type 0} → A × List Cursor → Type 0
  Moved r = AllByRecursion Begun r.1

  variable_bears : (acs : List Access) (e : Expr) (v : ℕ) (cs : List Cursor) → AllByRecursion Begun cs → Bears P Moved (variable acs e v cs)
  variable_bears acs e v cs h =
      let merged : List Scanned → Lower ℕ = λ ss. merge MEET JOIN (occurs acs v) (λ i. (get_or ss i no_scan).crd) e in
      then_bears P (AllByRecursion Seen) Moved (for_each (scan v) cs) (λ ss. then (merged ss) (λ z. then (for_each (advance v z) ss) (λ moved. pure (z, moved))))
      (each_bears P Begun Seen (scan v) (scan_bears v) cs h)
      λ ss seen. then_bears P Any Moved (merged ss) (λ z. then (for_each (advance v z) ss) (λ moved. pure (z, moved)))
      (merge_bears P MEET JOIN is.meet is.join (occurs acs v) (λ i. (get_or ss i no_scan).crd) e)
      λ z any. then_bears P (AllByRecursion Begun) Moved (for_each (advance v z) ss) (λ moved. pure (z, moved))
      (each_bears P Seen Begun (advance v z) (advance_bears v z) ss seen)
      λ moved begun. pure_bears P Moved (z, moved) begun

  loop_bears : (acs : List Access) (e : Expr) (zs vs : List ℕ) (cs : List Cursor) → AllByRecursion Begun cs → Bears P Moved (loop acs e zs vs cs)
  loop_bears acs e zs [] cs h = pure_bears P Moved (zs, cs) h
  loop_bears acs e zs (v ∷ vs) cs h =
      then_bears P Moved Moved (variable acs e v cs) (λ r. loop acs e (r.0 ∷ zs) vs r.1) (variable_bears acs e v cs h)
      (λ r g. loop_bears acs e (r.0 ∷ zs) vs r.1 g)

  load_bears : (c : Cursor) → Begun c → Bears P Any (load c)
  load_bears c h = emit_bears P (LOAD c.of.slot c.ref) (is.load c.of h c.ref)

  evaluate_bears : (e : Expr) (cs : List Cursor) → AllByRecursion Begun cs → Bears P Any (evaluate e cs)
  evaluate_bears e cs h =
      then_bears P (AllByRecursion Any) Any (for_each load cs) (λ xs. merge MUL ADD (λ e. true) (λ i. get_or xs i 0) e) (each_bears P Begun Any load load_bears cs h)
      (λ xs g. merge_bears P MUL ADD is.mul is.add (λ e. true) (λ i. get_or xs i 0) e)

  sums_bears : (vs zs : List ℕ) (a : ℕ) → Bears P Any (sums left vs zs a)
  sums_bears [] zs a = pure_bears P {A = ℕ × List ℕ × List ℕ} Any (a, zs, []) tt
  sums_bears (v ∷ vs) zs a =
      cond_both (has left v) (pure (a, zs, v ∷ vs)) (then (emit (SUM a)) (λ b. sums left vs (tail zs) b)) (Bears P Any)
      (λ t. pure_bears P {A = ℕ × List ℕ × List ℕ} Any (a, zs, v ∷ vs) tt)
      (λ f. then_bears P Any Any (emit (SUM a)) (λ b. sums left vs (tail zs) b) (emit_bears P (SUM a) (is.sum a)) (λ b g. sums_bears vs (tail zs) b))

  pub term_bears : (order : List ℕ) (t : Term) → AllByRecursion Held t.accesses → Bears P Any (lower_term left order t)
  term_bears order t h =
      let acs = t.accesses in
      let e = t.body in
      let vs = variables order t in
      then_bears P (AllByRecursion Begun) Any (for_each start acs) (λ cs. then (loop acs e [] vs cs) (λ r. then (evaluate e r.1) (λ x. then (sums left (reverse vs) r.0 x) (write left))))
      (each_bears P Held Begun start start_bears acs h)
      λ cs begun. then_bears P Moved Any (loop acs e [] vs cs) (λ r. then (evaluate e r.1) (λ x. then (sums left (reverse vs) r.0 x) (write left)))
      (loop_bears acs e [] vs cs begun)
      λ r moved. then_bears P Any Any (evaluate e r.1) (λ x. then (sums left (reverse vs) r.0 x) (write left))
      (evaluate_bears e r.1 moved)
      λ x any. then_bears P Any Any (sums left (reverse vs) r.0 x) (write left)
      (sums_bears (reverse vs) r.0 x)
      λ q some n. ((is.write (length q.2) q.0 (reverse q.1) (map (λ v. place (reverse q.2) v + 1) left) (length-map left (λ v. place (reverse q.2) v + 1)), tt), tt)
