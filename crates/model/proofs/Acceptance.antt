-- A line that is accepted over tensors that are held fits what the central theorem needs. Assumes nothing.
use Rattle.std.proofs.Common.{◌≡◌, ℕ, zero, suc, ◌+◌, ◌<◌, ◌≤◌, Bool, true, false, cond, not, ◌||◌, eqb, ◌⊎◌, List, [], ◌∷◌, ◌++◌, map, length, get_or, IfSome, Some, None, Option, sym, refl, ap, ◌∙◌, subst, inl, inr, add-one, arith}
use mathlib.Core.Bool.{false≢true}
use Rattle.std.specs.Option.{option_map}
use Rattle.std.specs.List.{AllByRecursion}
use Rattle.std.proofs.lemmas.List.{get_or_past}
use Rattle.std.proofs.ByRecursion.{All-map, All-from_get_or}
use Rattle.std.proofs.lemmas.Bool.{eqb-true, not-false, or_parts, cases_lt}
use Rattle.model.specs.Semirings.{Algebra}
use Rattle.model.specs.Fibers.{Level, fiber, fiber_at, coords, Lawful}
use Rattle.model.specs.Tensors.{has, same, Tensor, Storage, Stacked, Holds, held_value}
use Rattle.model.specs.Terms.{Access, no_access, nth_access, kept}
use Rattle.model.specs.Grammar.{Syntax, spell, Grammatical}
use Rattle.model.specs.Reading.{Placed, accesses, terms_from, term_of, line_of, body_place, placed_vars, placed_accesses, PlacedAccess}
use Rattle.model.specs.Conditions.{Slots, Check, first_fault, Sized, over_limits, fits_slot, wrong_access, repeats, tree_vars, all_in, additions, uneven, extents_of, sized_vars, sized, access_vars, extent_of, other_extent, order_checks, order_vars, wrong_order, out_of_order, limits, access_rule, evenness, extents, loop_order, argument_order, judged, Accepts}
use Rattle.model.specs.Lowering.{place}
use Rattle.model.specs.Running.{nth_level}
use Rattle.model.specs.Meaning.{Tensors, extents_seen, dense_of, dense_values, AllHold}
use Rattle.model.proofs.Fit.{Good, Distinct, FitAccess, FitTerm, FitLine}
use Rattle.model.proofs.Faults.{Pass, Passes, every_passes, neither, no_fault, all_front, all_back, all_mapped, all_joined, all_both, all_as, all_nth, same_is, once_each, all_in_has, order_once}
use Rattle.model.proofs.Readings.{all_placed, all_terms, placed_tree, from_start, occurs_tree, nth_has, has_some}
use Rattle.model.proofs.Evens.{even_tree, terms_pass}

-- the fibers of a lawful level ascend below its extent
good_level : (e f n : ℕ) (l : Level) → Lawful e f n l → (r : Option ℕ) → Good e (coords (fiber_at l r))
good_level e f n l h None = (tt, tt)
good_level e f n l h (Some p) = go (cases_lt p f)
  where
    go : (p < f) ⊎ (f ≤ p) → Good e (coords (fiber l p))
    go (inl k) = (h.ascends p k, All-map (λ c. c < e) (λ (x : ℕ × ℕ). x.0) (fiber l p) (All-from_get_or (λ (x : ℕ × ℕ). x.0 < e) (fiber l p) (0, 0) (λ i j. h.within p i k j)))
    go (inr k) = subst (λ g. Good e (coords g)) (sym (get_or_past l p [] (omega (arith, h.number)))) (tt, tt)

good_nth : (es : List ℕ) (f : ℕ) (ls : List Level) (n : ℕ) → Stacked es f ls n → (k : ℕ) → k < length es → (r : Option ℕ) → Good (get_or es k 0) (coords (fiber_at (get_or ls k []) r))
good_nth [] f ls n h k below r = absurd (omega arith)
good_nth (e ∷ es) f [] n h k below r = absurd h
good_nth (e ∷ es) f (l ∷ ls) n h zero below r = good_level e f h.0 l h.1 r
good_nth (e ∷ es) f (l ∷ ls) n h (suc k) below r = good_nth es h.0 ls n h.2 k (omega arith) r

place_below : (vs : List ℕ) (v : ℕ) → has vs v ≡ true → place vs v < length vs
place_below [] v h = absurd (false≢true h)
place_below (x ∷ vs) v h = go (eqb x v) h (place_below vs v)
  where
    go : (b : Bool) → (b || has vs v) ≡ true → (has vs v ≡ true → place vs v < length vs) → cond b 0 (place vs v + 1) < suc (length vs)
    go true h' ih = omega arith
    go false h' ih = omega (arith, ih h')

-- where every argument has the extent of its variable, so has the argument at a variable's place
extent_at :
    (size : ℕ → ℕ) (p : ℕ) (vs es : List ℕ) → AllByRecursion (λ s. Pass (s.place, not (eqb s.extent (size s.var)))) (sized_vars (placed_vars p vs) es) → length es ≡ length vs
    → (v : ℕ) → has vs v ≡ true → get_or es (place vs v) 0 ≡ size v
extent_at size p [] es h q v k = absurd (false≢true k)
extent_at size p (x ∷ vs) [] h q v k = absurd (omega arith)
extent_at size p (x ∷ vs) (e ∷ es) h q v k = go (eqb x v) refl k (λ k'. extent_at size (p + 2) vs es h.1 (omega arith) v k')
  where
    go : (b : Bool) → eqb x v ≡ b → (b || has vs v) ≡ true → (has vs v ≡ true → get_or es (place vs v) 0 ≡ size v) → get_or (e ∷ es) (cond b 0 (place vs v + 1)) 0 ≡ size v
    go true r k' ih = eqb-true e (size x) (not-false _ h.0) ∙ ap size (eqb-true x v r)
    go false r k' ih = ap (λ n. get_or (e ∷ es) n 0) (add-one (place vs v)) ∙ ih k'

-- what acceptance gives of an access
pub record Sound (slots : Slots) (l : Syntax) (a : Access) : Type 0 where
  pub filled : fits_slot (slots a.slot) a.vars ≡ true
  pub sizes : (v : ℕ) → has a.vars v ≡ true → get_or (extents_of (slots a.slot)) (place a.vars v) 0 ≡ extent_of slots l v
  pub inner : kept (has a.vars) l.order ≡ a.vars
  pub looped : (v : ℕ) → has a.vars v ≡ true → has l.order v ≡ true

fits_long : (o : Option (List ℕ)) (vs : List ℕ) → fits_slot o vs ≡ true → length (extents_of o) ≡ length vs
fits_long None vs h = absurd (false≢true h)
fits_long (Some es) vs h = eqb-true (length es) (length vs) h

-- what each rule says where none is broken
pub record Clean (slots : Slots) (l : Syntax) : Type 0 where
  pub accessed : wrong_access slots l ≡ None
  pub even : uneven l ≡ None
  pub sized_alike : other_extent slots l ≡ None
  pub looped : wrong_order l ≡ None
  pub nested : out_of_order l ≡ None

pub clean : (slots : Slots) (l : Syntax) → judged slots l ≡ None → Clean slots l
clean slots l h =
    let a = no_fault (over_limits l) limits _ h in
    let b = no_fault (wrong_access slots l) access_rule _ a.1 in
    let c = no_fault (uneven l) evenness _ b.1 in
    let d = no_fault (other_extent slots l) extents _ c.1 in
    let e = no_fault (wrong_order l) loop_order _ d.1 in
    let f = no_fault (out_of_order l) argument_order None e.1 in
    record { accessed = b.0; even = c.0; sized_alike = d.0; looped = e.0; nested = f.0 }

module _ (slots : Slots) (l : Syntax) (rules : Clean slots l) where
  abbrev fills : PlacedAccess → Check
  fills c = (c.place, not (fits_slot (slots c.of.slot) c.of.vars) || repeats c.of.vars)

  abbrev measures : Sized → Check
  measures s = (s.place, not (eqb s.extent (extent_of slots l s.var)))

  abbrev nests : PlacedAccess → Check
  nests c = (c.place, not (same (kept (has c.of.vars) l.order) c.of.vars))

  abbrev arguments : PlacedAccess → List Sized
  arguments c = sized_vars (access_vars c) (extents_of (slots c.of.slot))

  access_passes : Passes ((0, repeats l.left) ∷ map fills (placed_accesses l))
  access_passes = every_passes ((0, repeats l.left) ∷ map fills (placed_accesses l)) rules.accessed

  pub once_left : Distinct l.left
  once_left = once_each l.left access_passes.0

  order_passes : Passes (order_checks (tree_vars l.body) [] (order_vars l) ++ (length (spell l), not (all_in (tree_vars l.body) l.order)) ∷ [])
  order_passes = every_passes _ rules.looped

  pub once_order : Distinct l.order
  once_order = (order_once (tree_vars l.body) [] _ l.order (all_front Pass (order_checks (tree_vars l.body) [] (order_vars l)) _ order_passes)).0

  pub order_has : (v : ℕ) → has (tree_vars l.body) v ≡ true → has l.order v ≡ true
  order_has v h = all_in_has (tree_vars l.body) l.order v (not-false _ (all_back Pass (order_checks (tree_vars l.body) [] (order_vars l)) _ order_passes).0) h

  one_sound :
      (c : PlacedAccess) → Pass (fills c) → AllByRecursion (λ s. Pass (measures s)) (arguments c) × Pass (nests c)
      → ((v : ℕ) → has c.of.vars v ≡ true → has l.order v ≡ true) → Sound slots l c.of
  one_sound c fit rest looped =
      let filled = not-false (fits_slot (slots c.of.slot) c.of.vars) (or_parts _ (repeats c.of.vars) fit).0 in
      record {
        filled = filled;
        sizes =
            extent_at (extent_of slots l) (c.place + 2) c.of.vars (extents_of (slots c.of.slot)) rest.0
            (fits_long (slots c.of.slot) c.of.vars filled);
        inner = same_is (kept (has c.of.vars) l.order) c.of.vars (not-false _ rest.1);
        looped = looped;
      }

  -- each access is sound
  pub sound : AllByRecursion (Sound slots l) (accesses l.body)
  sound =
      let measured = all_joined (λ s. Pass (measures s)) arguments (placed_accesses l) (all_mapped Pass measures (sized slots l) (every_passes (map measures (sized slots l)) rules.sized_alike)) in
      let nested = all_mapped Pass nests (placed_accesses l) (every_passes (map nests (placed_accesses l)) rules.nested) in
      let both = all_both (λ c. AllByRecursion (λ s. Pass (measures s)) (arguments c)) (λ c. Pass (nests c)) (λ c. AllByRecursion (λ s. Pass (measures s)) (arguments c) × Pass (nests c)) (λ c h k. (h, k)) (placed_accesses l) measured nested in
      all_both (λ a. (v : ℕ) → has a.vars v ≡ true → has l.order v ≡ true) (λ a. ((v : ℕ) → has a.vars v ≡ true → has l.order v ≡ true) → Sound slots l a) (Sound slots l)
      (λ a looped f. f looped) (accesses l.body)
      (All-from_get_or (λ a. (v : ℕ) → has a.vars v ≡ true → has l.order v ≡ true) (accesses l.body) no_access (λ i below v h. order_has v (nth_has (accesses l.body) i v h)))
      (
      all_placed (λ a. ((v : ℕ) → has a.vars v ≡ true → has l.order v ≡ true) → Sound slots l a) (body_place l) l.body
      (
      all_both (λ c. Pass (fills c)) (λ c. AllByRecursion (λ s. Pass (measures s)) (arguments c) × Pass (nests c)) (λ c. ((v : ℕ) → has c.of.vars v ≡ true → has l.order v ≡ true) → Sound slots l c.of)
      one_sound (placed_accesses l) (all_mapped Pass fills (placed_accesses l) access_passes.1) both
      )
      )

-- the conditions of a term: its sums, and the left variables
pub record Whole (left : List ℕ) (u : Placed) : Type 0 where
  pub passes : Passes (additions u.place true u.tree)
  pub lefts : all_in left (tree_vars u.tree) ≡ true

abbrev complete : Syntax → Placed → Check
complete l u = (u.place, not (all_in l.left (tree_vars u.tree)))

pub whole : (slots : Slots) (l : Syntax) → Clean slots l → Grammatical l.body → AllByRecursion (Whole l.left) (terms_from (body_place l) l.body)
whole slots l rules formed =
    let parts = neither (first_fault (additions (body_place l) false l.body)) (first_fault (map (complete l) (terms_from (body_place l) l.body))) rules.even in
    all_both (λ u. Passes (additions u.place true u.tree)) (λ u. Pass (complete l u)) (Whole l.left) (λ u h k. record { passes = h; lefts = not-false _ k })
    (terms_from (body_place l) l.body)
    (terms_pass (body_place l) l.body formed (every_passes (additions (body_place l) false l.body) parts.0))
    (all_mapped Pass (complete l) (terms_from (body_place l) l.body) (every_passes (map (complete l) (terms_from (body_place l) l.body)) parts.1))

module _ {V : Type 0} (K : Algebra V) (ts : Tensors V) (T : ℕ → Storage V) (hold : AllHold K.zero ts T) (l : Syntax) where
  abbrev size : ℕ → ℕ
  size = extent_of (extents_seen ts) l

  -- of a slot that is filled: its levels, and its dense values
  fit_slot :
      (a : Access) (o : Option (Tensor V)) → IfSome o (λ t. Holds K.zero t (T a.slot)) → fits_slot (option_map (λ t. t.extents) o) a.vars ≡ true
      → ((v : ℕ) → has a.vars v ≡ true → get_or (extents_of (option_map (λ t. t.extents) o)) (place a.vars v) 0 ≡ size v)
      → ((v : ℕ) → has a.vars v ≡ true → (r : Option ℕ) → Good (size v) (coords (fiber_at (nth_level T a.slot (place a.vars v)) r)))
      × ((cs : List ℕ) → length cs ≡ length a.vars → held_value K.zero (T a.slot) cs ≡ dense_of K.zero o cs)
  fit_slot a None held filled sizes = absurd (false≢true filled)
  fit_slot a (Some t) held filled sizes =
      let long = eqb-true (length t.extents) (length a.vars) filled in (
        λ v h r.
            subst (λ e. Good e (coords (fiber_at (nth_level T a.slot (place a.vars v)) r))) (sizes v h)
            (good_nth t.extents 1 (T a.slot).levels (length (T a.slot).values) held.stacked (place a.vars v) (omega (arith, place_below a.vars v h, long)) r),
        λ cs e. held.dense cs (e ∙ sym long),
      )

  fit_access : (a : Access) → Sound (extents_seen ts) l a → FitAccess K T size (dense_values K.zero ts) l.order a
  fit_access a s =
      let both = fit_slot a (ts a.slot) (hold a.slot) s.filled s.sizes in
      record { ordered = s.inner; fits = both.0; holds = both.1 }

  fit_term : (u : Placed) → AllByRecursion (Sound (extents_seen ts) l) (accesses u.tree) → Whole l.left u → FitTerm K T size (dense_values K.zero ts) l.left l.order (term_of u)
  fit_term u sounds w =
      let acs = accesses u.tree in
      let is = λ (v : ℕ). occurs_tree acs v u.tree 0 (from_start acs) in
      record {
        placed = (placed_tree u.tree 0 (length acs) (omega arith)).0;
        stands = λ i v h. is v ∙ nth_has acs i v h;
        lefts = λ v h. is v ∙ all_in_has l.left (tree_vars u.tree) v w.lefts h;
        orders = λ v h. has_some acs v (has l.order v ≡ true) (all_as (Sound (extents_seen ts) l) (λ a. has a.vars v ≡ true → has l.order v ≡ true) (λ a s. s.looped v) acs sounds) (sym (is v) ∙ h);
        even = λ v. (even_tree acs v u.place u.tree 0 (from_start acs) w.passes).0;
        stored = λ i h. fit_access (nth_access acs i) (all_nth (Sound (extents_seen ts) l) acs i no_access h sounds);
      }

  fit_line : (s : List ℕ) → Accepts (extents_seen ts) s l → FitLine K T (extent_of (extents_seen ts) l) (dense_values K.zero ts) (line_of l)
  fit_line s accepts =
      let rules = clean (extents_seen ts) l accepts.1 in
      let us = terms_from (body_place l) l.body in
      record {
        once_left = once_left (extents_seen ts) l rules;
        once_order = once_order (extents_seen ts) l rules;
        each =
            All-map (FitTerm K T size (dense_values K.zero ts) l.left l.order) term_of us
            (
            all_both (λ u. AllByRecursion (Sound (extents_seen ts) l) (accesses u.tree)) (Whole l.left) (λ u. FitTerm K T size (dense_values K.zero ts) l.left l.order (term_of u)) fit_term us
            (all_terms (Sound (extents_seen ts) l) (body_place l) l.body (sound (extents_seen ts) l rules))
            (whole (extents_seen ts) l rules accepts.0.formed.body)
            );
      }

pub accepted_fits :
    {V : Type 0} (K : Algebra V) (ts : Tensors V) (T : ℕ → Storage V) → AllHold K.zero ts T
    → (s : List ℕ) (l : Syntax) → Accepts (extents_seen ts) s l
    → FitLine K T (extent_of (extents_seen ts) l) (dense_values K.zero ts) (line_of l)
accepted_fits K ts T hold s l accepts = fit_line K ts T hold l s accepts
