-- What refuses a STORE, row by row, and what an accepted one keeps.
use Rattle.std.proofs.Common.{◌≡◌, ℕ, ◌+◌, ◌*◌, ◌<◌, ◌≤◌, Bool, true, false, cond, not, ◌||◌, eqb, ltb, List, map, length, get_or, Some, None, sum, Option, ok_or, sym, refl, ap, ◌∙◌, subst, zero-add, arith}
use Rattle.std.proofs.lemmas.Bool.{lt-ltb, le-ltb, ltb-false, eqb-true, or_parts, not-false}
use Rattle.model.specs.Calls.{Request, Fault, no_slot, shape, entry, room}
use Rattle.model.specs.Formats.{LevelSize}
use Rattle.model.specs.Conditions.{first_fault}
use Rattle.model.specs.Stores.{Sizes, FormatRules, some_pass, bad_shape, bad_entry, tensor_of, coordinates_of, entry_checks, entry_fault, no_room, level_sizes, positions_from, sizes_of, store_fault}
use Rattle.plans.specs.Rows.{rows_of, rows_in}
use Rattle.plans.specs.declared.rows.Rows.{Rows}
use Rattle.plans.specs.declared.fault.StoreFault.TheVariants.{Room}
use Rattle.plans.specs.Rooms.{crowded, Measured}
use Rattle.plans.specs.Requests.{request, wrong_shape, Planned}
use Rattle.slots.specs.declared.records.TensorRecord.{TensorRecord}
use Rattle.plans.proofs.Entries.{entry_rows}
use Rattle.plans.proofs.Passes.{none_passes}
use Rattle.plans.proofs.Sizings.{sizes_long}

-- What lists that fit keep.
pub record Shaped (rank : ℕ) (es fs cs : List ℕ) (n : ℕ) : Type 0 where
  pub shallow : rank ≤ 3
  pub extents : length es ≡ rank
  pub formats : length fs ≡ rank
  pub narrow : (i : ℕ) → i < length es → get_or es i 0 ≤ 4096
  pub known : (i : ℕ) → i < length fs → get_or fs i 0 ≤ 1
  pub whole : length cs ≡ rank * n

pub shaped : (rank : ℕ) (es fs cs : List ℕ) (n : ℕ) → wrong_shape rank es fs cs n ≡ false → Shaped rank es fs cs n
shaped rank es fs cs n h =
    let a = or_parts (ltb 3 rank) _ h in
    let b = or_parts (not (eqb (length es) rank)) _ a.1 in
    let c = or_parts (not (eqb (length fs) rank)) _ b.1 in
    let d = or_parts (some_pass (λ e. eqb e 0 || ltb 4096 e) es) _ c.1 in
    let e = or_parts (some_pass (λ f. ltb 1 f) fs) _ d.1 in
    record {
      shallow = ltb-false 3 rank a.0;
      extents = eqb-true (length es) rank (not-false _ b.0);
      formats = eqb-true (length fs) rank (not-false _ c.0);
      narrow = λ i l. ltb-false 4096 (get_or es i 0) (or_parts (eqb (get_or es i 0) 0) (ltb 4096 (get_or es i 0)) (none_passes (λ e. eqb e 0 || ltb 4096 e) es d.0 i l)).1;
      known = λ i l. ltb-false 1 (get_or fs i 0) (none_passes (λ f. ltb 1 f) fs e.0 i l);
      whole = eqb-true (length cs) (rank * n) (not-false _ e.1);
    }

module _ {V : Type 0} (z : Sizes) (rules : FormatRules) (slot rank : ℕ) (es fs cs : List ℕ) (vs : List V) (n : ℕ) (long : length vs ≡ n) where
  abbrev q : Request V
  q = request slot rank es fs cs vs

  abbrev css : List (List ℕ)
  css = rows_of rank n cs

  its_rows : coordinates_of (tensor_of q) ≡ css
  its_rows = entry_rows rank cs vs ∙ ap (λ m. rows_of rank m cs) long

  its_shape : bad_shape q ≡ wrong_shape rank es fs cs n
  its_shape = ap (wrong_shape rank es fs cs) long

  its_entry : bad_entry (tensor_of q) ≡ first_fault (entry_checks es 0 None css)
  its_entry = ap (λ x. first_fault (entry_checks es 0 None x)) its_rows

  pub its_sizes : sizes_of rules q ≡ level_sizes rules css 0 1 es fs
  its_sizes = ap (λ x. level_sizes rules x 0 1 es fs) its_rows

  its_room : no_room z rules q ≡ crowded z.level_words z.positions rules 0 1 (level_sizes rules css 0 1 es fs)
  its_room =
      ap (λ ls. ltb z.level_words (sum (map (λ l. rules.need l.0 l.1) ls)) || (some_pass (λ l. ltb 65536 (rules.children l.0 l.1)) ls || ltb z.positions (positions_from 1 rules ls))) its_sizes
      ∙ ap (λ m. ltb z.level_words m || (some_pass (λ l. ltb 65536 (rules.children l.0 l.1)) (level_sizes rules css 0 1 es fs)
      || ltb z.positions (positions_from 1 rules (level_sizes rules css 0 1 es fs))))
      (sym (zero-add (sum (map (λ l. rules.need l.0 l.1) (level_sizes rules css 0 1 es fs)))))

  -- the rows, with what each asks
  abbrev fault : Bool → Bool → Option ℕ → Bool → Option Fault
  fault a b k c = cond a (Some (no_slot slot)) (cond b (Some shape) (entry_fault k (cond c (Some room) None)))

  its_fault : store_fault z rules q ≡ fault (ltb 7 slot) (wrong_shape rank es fs cs n) (first_fault (entry_checks es 0 None css))
      (crowded z.level_words z.positions rules 0 1 (level_sizes rules css 0 1 es fs))
  its_fault =
      ap (λ b. fault (ltb 7 slot) b (bad_entry (tensor_of q)) (no_room z rules q)) its_shape
      ∙ ap (λ k. fault (ltb 7 slot) (wrong_shape rank es fs cs n) k (no_room z rules q)) its_entry
      ∙ ap (λ c. fault (ltb 7 slot) (wrong_shape rank es fs cs n) (first_fault (entry_checks es 0 None css)) c) its_room

  pub refused_slot : 7 < slot → store_fault z rules q ≡ Some (no_slot slot)
  refused_slot h = ap (λ a. fault a (bad_shape q) (bad_entry (tensor_of q)) (no_room z rules q)) (lt-ltb 7 slot h)

  module _ (h : slot ≤ 7) where
    in_range : (b : Bool) (k : Option ℕ) (c : Bool) → fault (ltb 7 slot) b k c ≡ fault false b k c
    in_range b k c = ap (λ a. fault a b k c) (le-ltb 7 slot h)

    abbrev places : Option ℕ
    places = first_fault (entry_checks es 0 None css)

    abbrev crowds : Bool
    crowds = crowded z.level_words z.positions rules 0 1 (level_sizes rules css 0 1 es fs)

    decided : (b : Bool) (k : Option ℕ) (c : Bool) → wrong_shape rank es fs cs n ≡ b → places ≡ k → crowds ≡ c → store_fault z rules q ≡ fault false b k c
    decided b k c x y w =
        its_fault ∙ in_range (wrong_shape rank es fs cs n) places crowds ∙ ap (λ b. fault false b places crowds) x ∙ ap (λ k. fault false b k crowds) y ∙ ap (λ c. fault false b k c) w

    pub refused_shape : wrong_shape rank es fs cs n ≡ true → store_fault z rules q ≡ Some shape
    refused_shape x = decided true places crowds x refl refl

    pub refused_entry : (k : ℕ) → wrong_shape rank es fs cs n ≡ false → places ≡ Some k → store_fault z rules q ≡ Some (entry k)
    refused_entry k x y = decided false (Some k) crowds x y refl

    pub refused_room : wrong_shape rank es fs cs n ≡ false → places ≡ None → crowds ≡ true → store_fault z rules q ≡ Some room
    refused_room x y w = decided false None true x y w

    pub accepted : wrong_shape rank es fs cs n ≡ false → places ≡ None → crowds ≡ false → store_fault z rules q ≡ None
    accepted x y w = decided false None false x y w

    -- the same of the rows that a call finds
    module _ (x : wrong_shape rank es fs cs n ≡ false) (rows : List (List ℕ)) (are : rows ≡ css) where
      found : (k : Option ℕ) → k ≡ first_fault (entry_checks es 0 None rows) → places ≡ k
      found k y = sym (y ∙ ap (λ z. first_fault (entry_checks es 0 None z)) are)

      pub planned_entry : (k : ℕ) → Some k ≡ first_fault (entry_checks es 0 None rows) → store_fault z rules q ≡ Some (entry k)
      planned_entry k y = refused_entry k x (found (Some k) y)

      -- what is answered to levels that are measured
      pub planned : None ≡ first_fault (entry_checks es 0 None rows) → (o : Option TensorRecord)
          → Measured z.level_words z.positions rules (level_sizes rules rows 0 1 es fs) o → Planned z rules q (ok_or o Room)
      planned y None m = refused_room x (found None y) (subst (λ r. crowded z.level_words z.positions rules 0 1 (level_sizes rules r 0 1 es fs) ≡ true) are m)
      planned y (Some t) m =
          let m1 = subst (λ r. Measured z.level_words z.positions rules (level_sizes rules r 0 1 es fs) (Some t)) are m in (
            accepted x (found None y) m1.0,
            m1.1 ∙ sizes_long rules css 0 1 es fs ((shaped rank es fs cs n x).formats ∙ sym (shaped rank es fs cs n x).extents) ∙ (shaped rank es fs cs n x).extents,
            m1.2 ∙ sym its_sizes,
            m1.3 ∙ sym (ap (positions_from 1 rules) its_sizes),
          )

-- rows over these coordinates, so many and so long
pub rows_are : (r : Rows) (rank n : ℕ) (cs : List ℕ) → r.coordinates.now ≡ cs → r.rank ≡ rank → r.count ≡ n → rows_in r ≡ rows_of rank n cs
rows_are r rank n cs a b c = ap (λ x. rows_of x r.count r.coordinates.now) b ∙ ap (λ x. rows_of rank x r.coordinates.now) c ∙ ap (rows_of rank n) a

-- What an accepted request keeps.
pub record Accepted (z : Sizes) (rules : FormatRules) (slot rank : ℕ) (es fs cs : List ℕ) (n : ℕ) : Type 0 where
  pub in_range : slot ≤ 7
  pub shape : Shaped rank es fs cs n
  pub checked : first_fault (entry_checks es 0 None (rows_of rank n cs)) ≡ None
  pub fits : crowded z.level_words z.positions rules 0 1 (level_sizes rules (rows_of rank n cs) 0 1 es fs) ≡ false

pub accepts : {V : Type 0} (z : Sizes) (rules : FormatRules) (slot rank : ℕ) (es fs cs : List ℕ) (vs : List V) (n : ℕ) → length vs ≡ n
    → store_fault z rules (request slot rank es fs cs vs) ≡ None → Accepted z rules slot rank es fs cs n
accepts z rules slot rank es fs cs vs n long h =
    go (ltb 7 slot) (wrong_shape rank es fs cs n) (first_fault (entry_checks es 0 None (rows_of rank n cs)))
    (crowded z.level_words z.positions rules 0 1 (level_sizes rules (rows_of rank n cs) 0 1 es fs)) refl refl refl refl
    (sym (its_fault z rules slot rank es fs cs vs n long) ∙ h)
  where
    go : (a b : Bool) (k : Option ℕ) (c : Bool) → ltb 7 slot ≡ a → wrong_shape rank es fs cs n ≡ b → first_fault (entry_checks es 0 None (rows_of rank n cs)) ≡ k
        → crowded z.level_words z.positions rules 0 1 (level_sizes rules (rows_of rank n cs) 0 1 es fs) ≡ c
        → cond a (Some (no_slot slot)) (cond b (Some shape) (entry_fault k (cond c (Some room) None))) ≡ None → Accepted z rules slot rank es fs cs n
    go true b k c p q r w e = absurd (let x : ◌≡◌ {A = ℕ} 0 1 = cc in omega arith)
    go false true k c p q r w e = absurd (let x : ◌≡◌ {A = ℕ} 0 1 = cc in omega arith)
    go false false (Some k) c p q r w e = absurd (let x : ◌≡◌ {A = ℕ} 0 1 = cc in omega arith)
    go false false None true p q r w e = absurd (let x : ◌≡◌ {A = ℕ} 0 1 = cc in omega arith)
    go false false None false p q r w e =
        record { in_range = ltb-false 7 slot p; shape = shaped rank es fs cs n q; checked = r; fits = w }

-- levels that are not crowded have room
pub roomy : (L P : ℕ) (rules : FormatRules) (ls : List (ℕ × LevelSize)) → crowded L P rules 0 1 ls ≡ false
    → (sum (map (λ l. rules.need l.0 l.1) ls) ≤ L) × (positions_from 1 rules ls ≤ P)
roomy L P rules ls h =
    let a = or_parts (ltb L (0 + sum (map (λ l. rules.need l.0 l.1) ls))) _ h in
    let b = or_parts (some_pass (λ l. ltb 65536 (rules.children l.0 l.1)) ls) _ a.1 in
    (omega (arith, ltb-false L (0 + sum (map (λ l. rules.need l.0 l.1) ls)) a.0), ltb-false P (positions_from 1 rules ls) b.1)
