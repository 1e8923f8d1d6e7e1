-- Levels that lead each entry to its position, and values put at those positions, hold the tensor.
use Rattle.std.proofs.Common.{◌≡◌, ℕ, zero, suc, ◌<◌, Bool, true, false, cond, ◌⊎◌, List, [], ◌∷◌, map, length, get_or, drop, replicate, Some, None, Option, sym, refl, ap, ◌∙◌, subst, inl, inr, ⊎_elim, arith}
use mathlib.Core.Bool.{false≢true}
use Rattle.std.proofs.ByRecursion.{All-get_or}
use Rattle.std.proofs.lemmas.List.{length-replicate, get_or-replicate}
use Rattle.std.proofs.lemmas.Bool.{cases_eq, cases_order}
use Rattle.model.specs.Fibers.{Level}
use Rattle.model.specs.Tensors.{same, entry_at, reached, value_at, Stacked, Holds}
use Rattle.model.specs.Running.{before}
use Rattle.model.specs.Stores.{outside, entries_of}
use Rattle.model.proofs.Assignments.{same_is, same_self}
use Rattle.model.proofs.Tables.{before_self}
use Rattle.plans.specs.Rows.{rows_of, Rising, Ordered}
use Rattle.plans.proofs.Entries.{entry_rows, rows_long}
use Rattle.plans.proofs.Numbers.{row_long}
use Rattle.tensors.specs.Fillings.{scattered}
use Rattle.tensors.proofs.Stacks.{stacked_long, reached_below, reached_one}
use Rattle.tensors.proofs.Scatters.{scattered_long, scattered_other, scattered_at}

-- rows in ascending order differ
rising_at : (css : List (List ℕ)) → Rising css → (j k : ℕ) → j < k → k < length css → before (get_or css j []) (get_or css k []) ≡ true
rising_at [] r j k h i = absurd (omega arith)
rising_at (cs ∷ css) r j zero h i = absurd (omega arith)
rising_at (cs ∷ css) r zero (suc k) h i = All-get_or (λ ds. before cs ds ≡ true) css k [] (omega arith) r.0
rising_at (cs ∷ css) r (suc j) (suc k) h i = rising_at css r.1 j k (omega arith) (omega arith)

rising_one : (css : List (List ℕ)) → Rising css → (j k : ℕ) → j < length css → k < length css → get_or css j [] ≡ get_or css k [] → j ≡ k
rising_one css r j k h i e =
    ⊎_elim (λ s. s)
    (⊎_elim
    (λ l. absurd (false≢true (sym (before_self (get_or css k [])) ∙ ap (λ x. before x (get_or css k [])) (sym e) ∙ rising_at css r j k l i)))
    (λ g. absurd (false≢true (sym (before_self (get_or css j [])) ∙ ap (λ x. before x (get_or css j [])) e ∙ rising_at css r k j g h))))
    (cases_order j k)

module _ {V : Type 0} (neutral : V) where
  entry_none : (es : List (List ℕ × V)) (cs : List ℕ) → ((k : ℕ) → k < length es → get_or (map (λ e. e.0) es) k [] ≡ cs → ⊥) → entry_at neutral es cs ≡ neutral
  entry_none [] cs h = refl
  entry_none (e ∷ es) cs h = go (same e.0 cs) refl (entry_none es cs (λ k l. h (suc k) (omega arith)))
    where
      go : (b : Bool) → same e.0 cs ≡ b → entry_at neutral es cs ≡ neutral → cond b e.1 (entry_at neutral es cs) ≡ neutral
      go true s ih = absurd (h 0 (omega arith) (same_is e.0 cs s))
      go false s ih = ih

  entry_hit : (es : List (List ℕ × V)) (cs : List ℕ) (k : ℕ) → k < length es → get_or (map (λ e. e.0) es) k [] ≡ cs
      → ((j m : ℕ) → j < length es → m < length es → get_or (map (λ e. e.0) es) j [] ≡ get_or (map (λ e. e.0) es) m [] → j ≡ m)
      → entry_at neutral es cs ≡ get_or (map (λ e. e.1) es) k neutral
  entry_hit [] cs k h s one = absurd (omega arith)
  entry_hit (e ∷ es) cs zero h s one = ap (λ b. cond b e.1 (entry_at neutral es cs)) (ap (same e.0) (sym s) ∙ same_self e.0)
  entry_hit (e ∷ es) cs (suc k) h s one =
      go (same e.0 cs) refl (entry_hit es cs k (omega arith) s (λ j m l n q. let z = one (suc j) (suc m) (omega arith) (omega arith) q in omega arith))
    where
      go : (b : Bool) → same e.0 cs ≡ b → entry_at neutral es cs ≡ get_or (map (λ e. e.1) es) k neutral → cond b e.1 (entry_at neutral es cs) ≡ get_or (map (λ e. e.1) es) k neutral
      go true q ih = let z = one 0 (suc k) (omega arith) h (same_is e.0 cs q ∙ sym s) in absurd (omega arith)
      go false q ih = ih

  entry_values : (r : ℕ) (cs : List ℕ) (vs : List V) → map (λ e. e.1) (entries_of r cs vs) ≡ vs
  entry_values r cs [] = refl
  entry_values r cs (v ∷ vs) = ap (λ xs. v ∷ xs) (entry_values r (drop r cs) vs)

  entries_long : (r : ℕ) (cs : List ℕ) (vs : List V) → length (entries_of r cs vs) ≡ length vs
  entries_long r cs [] = refl
  entries_long r cs (v ∷ vs) = ap suc (entries_long r (drop r cs) vs)

place_of : (os : List ℕ) (p : ℕ) → ((k : ℕ) × (k < length os) × (get_or os k 0 ≡ p)) ⊎ ((k : ℕ) → k < length os → get_or os k 0 ≡ p → ⊥)
place_of [] p = inr (λ k h e. omega arith)
place_of (o ∷ os) p =
    ⊎_elim
    (λ e. inl (0, omega arith, e))
    (λ ne. ⊎_elim
    (λ r. inl (suc r.0, omega (arith, r.1), r.2))
    (λ n. inr (λ k. go k ne n))
    (place_of os p))
    (cases_eq o p)
  where
    go : (k : ℕ) → (o ≡ p → ⊥) → ((k : ℕ) → k < length os → get_or os k 0 ≡ p → ⊥) → k < suc (length os) → get_or (o ∷ os) k 0 ≡ p → ⊥
    go zero ne n h e = ne e
    go (suc k) ne n h e = n k (omega arith) e

module _ {V : Type 0} (neutral : V) (es : List ℕ) (cs : List ℕ) (vs : List V) (n : ℕ) (long : length vs ≡ n) (o : Ordered es (rows_of (length es) n cs))
    (ls : List Level) (P : ℕ) (stacked : Stacked es 1 ls P) (os : List ℕ) (owners : length os ≡ n)
    (led : (k : ℕ) → k < n → reached ls (Some 0) (get_or (rows_of (length es) n cs) k []) ≡ Some (get_or os k 0)) where
  abbrev css : List (List ℕ)
  css = rows_of (length es) n cs

  rows_are : map (λ e. e.0) (entries_of (length es) cs vs) ≡ css
  rows_are = entry_rows (length es) cs vs ∙ ap (λ m. rows_of (length es) m cs) long

  row_is_long : (k : ℕ) → k < n → length (get_or css k []) ≡ length ls
  row_is_long k h =
      let inside = All-get_or (λ cs. outside es cs ≡ false) css k [] (omega (arith, rows_long (length es) n cs)) o.within in
      row_long es (get_or css k []) inside ∙ sym (stacked_long es 1 ls P stacked)

  pub positions_below : (k : ℕ) → k < n → get_or os k 0 < P
  positions_below k h = reached_below es 1 ls P stacked 0 (get_or css k []) (get_or os k 0) (omega arith) (row_is_long k h) (led k h)

  positions_one : (j k : ℕ) → j < length os → k < length os → get_or os j 0 ≡ get_or os k 0 → j ≡ k
  positions_one j k h i e =
      let same_rows = (reached_one es 1 ls P stacked 0 0 (get_or css j []) (get_or css k []) (get_or os k 0) (omega arith) (omega arith)
      (row_is_long j (omega arith)) (row_is_long k (omega arith)) (led j (omega arith) ∙ ap Some e) (led k (omega arith))).1 in
      rising_one css o.rising j k (omega (arith, rows_long (length es) n cs)) (omega (arith, rows_long (length es) n cs)) same_rows

  abbrev held : List V
  held = scattered os vs (replicate P neutral)

  abbrev entries : List (List ℕ × V)
  entries = entries_of (length es) cs vs

  row_at : (k : ℕ) → get_or (map (λ e. e.0) entries) k [] ≡ get_or css k []
  row_at k = ap (λ x. get_or x k []) rows_are

  hit : (ds : List ℕ) (k : ℕ) → k < n → get_or css k [] ≡ ds → entry_at neutral entries ds ≡ get_or vs k neutral
  hit ds k h e =
      entry_hit neutral entries ds k (omega (arith, entries_long neutral (length es) cs vs)) (row_at k ∙ e)
      (λ j m l i q. rising_one css o.rising j m (omega (arith, rows_long (length es) n cs, entries_long neutral (length es) cs vs))
      (omega (arith, rows_long (length es) n cs, entries_long neutral (length es) cs vs)) (sym (row_at j) ∙ q ∙ row_at m))
      ∙ ap (λ x. get_or x k neutral) (entry_values neutral (length es) cs vs)

  miss : (ds : List ℕ) → ((k : ℕ) → k < n → get_or css k [] ≡ ds → ⊥) → entry_at neutral entries ds ≡ neutral
  miss ds h = entry_none neutral entries ds (λ k l e. h k (omega (arith, entries_long neutral (length es) cs vs)) (sym (row_at k) ∙ e))

  held_at : (ds : List ℕ) → length ds ≡ length es → (r : Option ℕ) → reached ls (Some 0) ds ≡ r → value_at neutral held r ≡ entry_at neutral entries ds
  held_at ds h None e =
      sym (miss ds (λ k l s. let a = led k l in let b = ap (reached ls (Some 0)) s in let z : ◌≡◌ {A = ℕ} 0 1 = cc in omega arith))
  held_at ds h (Some p) e =
      ⊎_elim
      (λ r.
      let at = led r.0 (omega (arith, r.1)) in
      let rows = (reached_one es 1 ls P stacked 0 0 (get_or css r.0 []) ds p (omega arith) (omega arith) (row_is_long r.0 (omega (arith, r.1)))
      (h ∙ sym (stacked_long es 1 ls P stacked)) (at ∙ ap Some r.2) e).1 in
      ap (λ q. get_or held q neutral) (sym r.2)
      ∙ scattered_at os vs (replicate P neutral) r.0 neutral r.1 (omega (arith, r.1)) (omega (arith, positions_below r.0 (omega (arith, r.1)), length-replicate P neutral)) positions_one
      ∙ sym (hit ds r.0 (omega (arith, r.1)) rows))
      (λ none.
      scattered_other os vs (replicate P neutral) p neutral none
      ∙ get_or-replicate P p neutral neutral (reached_below es 1 ls P stacked 0 ds p (omega arith) (h ∙ sym (stacked_long es 1 ls P stacked)) e)
      ∙ sym (miss ds (λ k l s. none k (omega arith) (let a = led k l in let b = ap (reached ls (Some 0)) s in let z : get_or os k 0 ≡ p = cc in z))))
      (place_of os p)

  pub all_held : Holds neutral (record { extents = es; entries = entries }) (record { levels = ls; values = held })
  all_held = record {
    stacked = subst (λ m. Stacked es 1 ls m) (sym (scattered_long os vs (replicate P neutral) ∙ length-replicate P neutral)) stacked;
    dense = λ ds h. held_at ds h (reached ls (Some 0) ds) refl;
  }
