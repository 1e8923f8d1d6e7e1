-- The central theorem. Assumes nothing.
use Rattle.std.proofs.Common.{◌≡◌, ℕ, zero, suc, ◌+◌, ◌-◌, ◌<◌, Bool, true, false, cond, ◌||◌, eqb, List, [], ◌∷◌, map, reverse, length, get_or, sym, refl, ap, ◌∙◌, subst, ap₂, true≢false, arith}
use mathlib.Core.Bool.{false≢true}
use mathlib.Core.List.{map-append}
use Rattle.std.specs.List.{flat_map, AllByRecursion}
use Rattle.std.proofs.lemmas.Bool.{eq-eqb, eqb-true}
use Rattle.std.proofs.ByRecursion.{All-append, All-weaker, All-from_get_or}
use Rattle.model.specs.Semirings.{Algebra, Laws, total, ZeroTest}
use Rattle.model.specs.Tensors.{Storage, has, same}
use Rattle.model.specs.Trees.{Tree, gathered}
use Rattle.model.specs.Terms.{no_access, Access, Expr, Term, Line, occurs, variables}
use Rattle.model.specs.Blocks.{Key, key}
use Rattle.model.specs.Running.{Table, before, insert, inserts, results, run, nothing_yet}
use Rattle.model.specs.Lowering.{place, lowered}
use Rattle.model.specs.Sums.{Assignment, bind, bind_all, bags, sum_over, dense_sum, bag_sum, listing}
use Rattle.model.specs.Meaning.{Ascending}
use Rattle.model.specs.Shapes.{AllFit}
use Rattle.model.proofs.Fit.{Distinct, FitTerm, FitLine}
use Rattle.model.proofs.Totals.{sum_zero_right, total_append}
use Rattle.model.proofs.Variables.{has_reverse, distinct_kept, in_kept}
use Rattle.model.proofs.PathTrees.{tree, value_of, sum_down, over_vars, entries_at, entries}
use Rattle.model.proofs.BlockSteps.{AccessAscends}
use Rattle.model.proofs.TermWrites.{Writable, line_writes, line_fits}
use Rattle.model.proofs.Assignments.{picked, same_is, bind_other}
use Rattle.model.proofs.PathKeys.{has_rest}
use Rattle.model.proofs.TermMeaning.{adds_all, term_adds, at_assignment}
use Rattle.model.proofs.Tables.{more, Before, before_trans, Long, Order, less, equal, order, look, look_inserts, Above, Keyed, results_same}
use Rattle.model.proofs.KeyLists.{within, within_long, within_below, within_map, total_below, look_append, look_all, all_climb, all_long}

module _ {V : Type 0} (K : Algebra V) (laws : Laws K) where
  above_insert : (k j : Key) (x : V) (t : Table V) → Before k j → Above K laws k t → Above K laws k (insert K j x t)
  above_insert k j x [] b h = (b, tt)
  above_insert k j x (e ∷ t) b h = go (same j e.0) (before j e.0) (above_insert k j x t b h.1)
    where
      go : (s d : Bool) → Above K laws k (insert K j x t) → Above K laws k (cond s ((e.0, K.sum e.1 x) ∷ t) (cond d ((j, x) ∷ e ∷ t) (e ∷ insert K j x t)))
      go true d ih = h
      go false true ih = (b, h)
      go false false ih = (h.0, ih)

  keyed_insert : (vs : List ℕ) (j : Key) (x : V) (t : Table V) → Long vs j → Keyed K laws vs t → Keyed K laws vs (insert K j x t)
  keyed_insert vs j x [] l h = (l, tt)
  keyed_insert vs j x (e ∷ t) l h = go (same j e.0) (before j e.0) (keyed_insert vs j x t l h.1)
    where
      go : (s d : Bool) → Keyed K laws vs (insert K j x t) → Keyed K laws vs (cond s ((e.0, K.sum e.1 x) ∷ t) (cond d ((j, x) ∷ e ∷ t) (e ∷ insert K j x t)))
      go true d ih = h
      go false true ih = (l, h)
      go false false ih = (h.0, ih)

  above_all : (j k : Key) (t : Table V) → Before j k → Above K laws k t → Above K laws j t
  above_all j k [] b h = tt
  above_all j k (e ∷ t) b h = (before_trans j k e.0 b h.0, above_all j k t b h.1)

  climbs_insert : (vs : List ℕ) (j : Key) (x : V) (t : Table V) → Long vs j → Keyed K laws vs t → Ascending t → Ascending (insert K j x t)
  climbs_insert vs j x [] l ls h = (tt, tt)
  climbs_insert vs j x (e ∷ t) l ls h = go (same j e.0) (before j e.0) refl refl (order vs j e.0 l ls.0) (climbs_insert vs j x t l ls.1 h.1)
    where
      go : (s d : Bool) → same j e.0 ≡ s → before j e.0 ≡ d → Order j e.0 → Ascending (insert K j x t) → Ascending (cond s ((e.0, K.sum e.1 x) ∷ t) (cond d ((j, x) ∷ e ∷ t) (e ∷ insert K j x t)))
      go true d q r o ih = h
      go false true q r o ih = ((r, above_all j e.0 t r h.0), h)
      go false false q r (less b) ih = absurd (true≢false (sym b ∙ r))
      go false false q r (equal b) ih = absurd (true≢false (sym b ∙ q))
      go false false q r (more b) ih = (above_insert e.0 j x t b h.0, ih)

  inserts_good : (vs : List ℕ) (es t : Table V) → Keyed K laws vs es → Keyed K laws vs t → Ascending t → Ascending (inserts K es t) × Keyed K laws vs (inserts K es t)
  inserts_good vs [] t l ls h = (h, ls)
  inserts_good vs (e ∷ es) t l ls h = inserts_good vs es (insert K e.0 e.1 t) l.1 (keyed_insert vs e.0 e.1 t l.0 ls) (climbs_insert vs e.0 e.1 t l.0 ls h)

all_joined : {A B : Type 0} (P : B → Type 0) (g : A → List B) → ((a : A) → AllByRecursion P (g a)) → (xs : List A) → AllByRecursion P (flat_map g xs)
all_joined P g h [] = tt
all_joined P g h (x ∷ xs) = All-append P (g x) (flat_map g xs) (h x) (all_joined P g h xs)

all_gathered : {A B : Type 0} (P : B → Type 0) (g : A → List B) → ((a : A) → AllByRecursion P (g a)) → (d : ℕ) (t : Tree A d) → AllByRecursion P (gathered g d t)
all_gathered P g h zero t = h t
all_gathered P g h (suc d) t = all_gathered P (flat_map g) (all_joined P g h) d t

long_map : (vs : List ℕ) (f g : ℕ → ℕ) → Long vs (map f (map g vs))
long_map [] f g = tt
long_map (v ∷ vs) f g = long_map vs f g

module _ {V : Type 0} (K : Algebra V) (laws : Laws K) (T : ℕ → Storage V) (extent : ℕ → ℕ) (dense : ℕ → List ℕ → V) where
  -- zero at all assignments of coordinates below the extents
  over_below : (vs : List ℕ) (s : Assignment) (f : Assignment → V) → Distinct vs → ((t : Assignment) → ((w : ℕ) → has vs w ≡ true → t w < extent w) → ((w : ℕ) → has vs w ≡ false → t w ≡ s w) → f t ≡ K.zero) → sum_over K extent dense vs s f ≡ K.zero
  over_below [] s f d h = h s (λ w e. absurd (false≢true e)) (λ w e. refl)
  over_below (v ∷ vs) s f d h =
      total_below K laws (λ c. sum_over K extent dense vs (bind v c s) f) 0 (extent v)
      (λ c lt. over_below vs (bind v c s) f d.1 (λ t lts a. h t (λ w e. low c (omega arith) t lts a w (eqb v w) refl e) (λ w e. keeps c t a w (eqb v w) (has vs w) refl refl e)))
    where
      low : (c : ℕ) → c < extent v → (t : Assignment) → ((w : ℕ) → has vs w ≡ true → t w < extent w) → ((w : ℕ) → has vs w ≡ false → t w ≡ bind v c s w) → (w : ℕ) (b : Bool) → eqb v w ≡ b → (b || has vs w) ≡ true → t w < extent w
      low c lt t lts a w true q e = subst (λ u. t u < extent u) (eqb-true v w q) (subst (λ n. n < extent v) (sym (a v d.0 ∙ ap (λ b. cond b c (s v)) (eq-eqb v v refl))) lt)
      low c lt t lts a w false q e = lts w e

      keeps : (c : ℕ) (t : Assignment) → ((w : ℕ) → has vs w ≡ false → t w ≡ bind v c s w) → (w : ℕ) (b d : Bool) → eqb v w ≡ b → has vs w ≡ d → (b || d) ≡ false → t w ≡ s w
      keeps c t a w true d1 q r e = absurd (true≢false e)
      keeps c t a w false d1 q r e = a w (r ∙ e) ∙ bind_other v c w s q

  module _ (left loop_order : List ℕ) (once : Distinct loop_order) (once_left : Distinct left) where
    abbrev new : Term → Table V
    new = entries K T left loop_order

    -- outside the extents nothing is added
    outside : (t : Term) → FitTerm K T extent dense left loop_order t → (k : Key) → within extent left k ≡ false → look K laws k (new t) ≡ K.zero
    outside t fit k no_k =
        adds_all K laws T extent dense left loop_order once t fit (bind_all left k) k
        ∙ over_below (variables loop_order t) (bind_all left k) (picked K laws extent dense left k (at_assignment K laws T extent dense left loop_order once t fit)) (distinct_kept (λ v. occurs t.accesses v t.body) loop_order once)
        (λ s lts a. go s lts (same (map s left) k) refl)
      where
        go : (s : Assignment) → ((w : ℕ) → has (variables loop_order t) w ≡ true → s w < extent w) → (b : Bool) → same (map s left) k ≡ b → cond b (at_assignment K laws T extent dense left loop_order once t fit s) K.zero ≡ K.zero
        go s lts true q = absurd (true≢false (sym (ap (within extent left) (sym (same_is (map s left) k q)) ∙ within_map extent left s (λ w h. lts w (in_kept (λ v. occurs t.accesses v t.body) loop_order w (fit.lefts w h) (fit.orders w (fit.lefts w h))))) ∙ no_k))
        go s lts false q = refl

    terms_add : (ts : List Term) → AllByRecursion (FitTerm K T extent dense left loop_order) ts → (k : Key) (b : Bool) → within extent left k ≡ b
        → look K laws k (flat_map new ts) ≡ cond b (total K (map (bag_sum K extent dense left k) (flat_map (λ t. bags t.accesses t.body) ts))) K.zero
    terms_add [] fit k true e = refl
    terms_add [] fit k false e = refl
    terms_add (t ∷ ts) fit k true e =
        look_append K laws k (new t) (flat_map new ts)
        ∙ ap₂ K.sum (term_adds K laws T extent dense left loop_order once t fit.0 k once_left (within_long extent left k e) (within_below extent left k e)) (terms_add ts fit.1 k true e)
        ∙ sym (ap (total K) (map-append _ (bags t.accesses t.body) (flat_map (λ t1. bags t1.accesses t1.body) ts)) ∙ total_append K laws _ _)
    terms_add (t ∷ ts) fit k false e =
        look_append K laws k (new t) (flat_map new ts) ∙ ap₂ K.sum (outside t fit.0 k e) (terms_add ts fit.1 k false e) ∙ laws.sum_zero K.zero

    keyed_at : (acs : List Access) (body : Expr) (vs : List ℕ) (g : ℕ → ℕ) (f : List ℕ → V) → Keyed K laws left (entries_at K T acs body (map g left) vs f)
    keyed_at acs body vs g f =
        all_gathered {B = Key × V} (λ e. Long left e.0) (λ p. (key (map g left) p, f p) ∷ []) (λ p. (long_map left (λ m. get_or (reverse p) (m - 1) 0) g, tt)) (length vs) (tree K T acs body vs)

    new_keyed : (t : Term) → Keyed K laws left (new t)
    new_keyed t = keyed_at t.accesses t.body (over_vars K T left loop_order t) (λ v. place (reverse (over_vars K T left loop_order t)) v + 1) (sum_down K T t.accesses t.body left (reverse (variables loop_order t)) (value_of K T t.accesses t.body (reverse (variables loop_order t))))

module _ {V : Type 0} (K : Algebra V) (T : ℕ → Storage V) (extent : ℕ → ℕ) (dense : ℕ → List ℕ → V) where
  writable : (left loop_order : List ℕ) (t : Term) → FitTerm K T extent dense left loop_order t → Writable K T left loop_order t
  writable left loop_order t fit =
      record {
        placed = fit.placed;
        ascends = All-from_get_or (AccessAscends T) t.accesses no_access (λ i lt v h r. ((fit.stored i lt).fits v h r).0);
        lefts =
            λ w h. has_rest K T t.accesses t.body left (reverse (variables loop_order t)) w h
            (has_reverse (variables loop_order t) w ∙ in_kept (λ v. occurs t.accesses v t.body) loop_order w (fit.lefts w h) (fit.orders w (fit.lefts w h)));
      }

  all_writable : (l : Line) → FitLine K T extent dense l → AllByRecursion (Writable K T l.left l.order) l.terms
  all_writable l fit = All-weaker (FitTerm K T extent dense l.left l.order) (Writable K T l.left l.order) (writable l.left l.order) l.terms fit.each

  -- every command of the graph of a line that fits, at its turn, fits the streams made before it
  pub fit_commands : (l : Line) → FitLine K T extent dense l → AllFit K T (lowered l) nothing_yet
  fit_commands l fit = line_fits K T l (all_writable l fit)

-- The central theorem over a line that fits: the keys of the final table ascend, and its entries that are not zero are the listing.
pub fit_meaning :
    (V : Type 0) (K : Algebra V) → Laws K → ZeroTest K → (T : ℕ → Storage V) (extent : ℕ → ℕ) (dense : ℕ → List ℕ → V) (l : Line) → FitLine K T extent dense l
    → Ascending (run K T (lowered l) nothing_yet).table × (results K (run K T (lowered l) nothing_yet).table ≡ listing K extent dense l)
fit_meaning V K laws tests T extent dense l fit = (
  subst Ascending (sym wrote) good.0,
  ap (results K) wrote
      ∙ results_same K laws tests l.left final _ good.0 good.1
      (all_climb K laws extent l.left (dense_sum K extent dense l)) (all_long K laws extent l.left (dense_sum K extent dense l))
      (
      λ k. look_inserts K laws k added [] ∙ sum_zero_right K laws (look K laws k added)
      ∙ terms_add K laws T extent dense l.left l.order fit.once_order fit.once_left l.terms fit.each k (within extent l.left k) refl
      ∙ sym (look_all K laws extent l.left (dense_sum K extent dense l) k)
      ),
)
  where
    added : Table V
    added = flat_map (entries K T l.left l.order) l.terms

    final : Table V
    final = inserts K added []

    wrote : (run K T (lowered l) nothing_yet).table ≡ final
    wrote = line_writes K T l (all_writable K T extent dense l fit)

    good : Ascending final × Keyed K laws l.left final
    good = inserts_good K laws l.left added [] (all_joined (λ e. Long l.left e.0) (entries K T l.left l.order) (new_keyed K laws T extent dense l.left l.order fit.once_order fit.once_left) l.terms) tt tt
