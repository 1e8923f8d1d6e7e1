-- Steps along a loop order. Assumes nothing.
use Rattle.std.proofs.Common.{◌≡◌, ℕ, Bool, true, false, cond, not, ◌||◌, eqb, List, [], ◌∷◌, length, Some, None, Decides, sym, ap, ◌∙◌, subst}
use Rattle.std.proofs.lemmas.Bool.{eq-eqb, ne_eqb}
use Rattle.model.specs.Tensors.{has, same}
use Rattle.model.specs.Terms.{kept}
use Rattle.model.specs.Grammar.{is_var, Vars}
use Rattle.model.specs.Conditions.{first_fault}
use Rattle.reader.specs.declared.vars.VarList.{VarList}
use Rattle.reader.specs.Lists.{vars_of, placed_of}
use Rattle.reader.proofs.Having.{bare, bare_placed}
use Rattle.lines.specs.declared.sets.VarSet.{VarSet}
use Rattle.lines.specs.Sets.{in_set, NoVar, With, SetOf, Within}
use Rattle.lines.specs.Checks.{order_faults, order_left}
use Rattle.lines.proofs.Members.{or_none, or_swap, included}

-- what is left of a loop order, beside what is left of an access's variables
abbrev pub Meets : (ℕ → Bool) → List (ℕ × ℕ) → List (ℕ × ℕ) → Bool → Type 0
Meets test os vs whole = same (kept test (bare os)) (bare vs) ≡ whole

pub meets_start : (s : List ℕ) (order vars : VarList) (os vs : List (ℕ × ℕ)) → os ≡ placed_of s order → vs ≡ placed_of s vars → Meets (has (vars_of s vars)) os vs (same (kept (has (vars_of s vars)) (vars_of s order)) (vars_of s vars))
meets_start s order vars os vs e f =
    ap (λ l. same (kept (has (vars_of s vars)) l) (bare vs)) (ap bare e ∙ bare_placed order.place (vars_of s order))
    ∙ ap (same (kept (has (vars_of s vars)) (vars_of s order))) (ap bare f ∙ bare_placed vars.place (vars_of s vars))

module _ (test : ℕ → Bool) (vs : List (ℕ × ℕ)) (whole : Bool) where
  module _ (all os : List (ℕ × ℕ)) (x : ℕ × ℕ) (inv : Meets test all vs whole) (e : all ≡ x ∷ os) where
    left : (b : Bool) → test x.1 ≡ b → same (cond b (x.1 ∷ kept test (bare os)) (kept test (bare os))) (bare vs) ≡ whole
    left b is = ap (λ y. same (cond y (x.1 ∷ kept test (bare os)) (kept test (bare os))) (bare vs)) (sym is) ∙ sym (ap (λ l. same (kept test (bare l)) (bare vs)) e) ∙ inv

    pub order_skips : false ≡ test x.1 → Meets test os vs whole
    order_skips is = left false (sym is)

    -- the next of the access's
    pub order_meets : true ≡ test x.1 → (y : ℕ × ℕ) (ws : List (ℕ × ℕ)) → vs ≡ y ∷ ws → y.1 ≡ x.1 → Meets test os ws whole
    order_meets is y ws f h =
        sym (ap (λ b. cond b (same (kept test (bare os)) (bare ws)) false) (eq-eqb x.1 y.1 (sym h)))
        ∙ sym (ap (λ l. same (x.1 ∷ kept test (bare os)) (bare l)) f) ∙ left true (sym is)

    pub order_differs : true ≡ test x.1 → (y : ℕ × ℕ) (ws : List (ℕ × ℕ)) → vs ≡ y ∷ ws → (y.1 ≡ x.1 → ⊥) → false ≡ whole
    order_differs is y ws f h =
        sym (ap (λ b. cond b (same (kept test (bare os)) (bare ws)) false) (ne_eqb x.1 y.1 (λ z. h (sym z))))
        ∙ sym (ap (λ l. same (x.1 ∷ kept test (bare os)) (bare l)) f) ∙ left true (sym is)

    pub order_over : true ≡ test x.1 → vs ≡ [] → false ≡ whole
    order_over is f = sym (ap (λ l. same (x.1 ∷ kept test (bare os)) (bare l)) f) ∙ left true (sym is)

  module _ (all : List (ℕ × ℕ)) (inv : Meets test all vs whole) (e : all ≡ []) where
    none_left : same [] (bare vs) ≡ whole
    none_left = sym (ap (λ l. same (kept test (bare l)) (bare vs)) e) ∙ inv

    pub order_ends : vs ≡ [] → true ≡ whole
    order_ends f = sym (ap (λ l. same [] (bare l)) f) ∙ none_left

    pub order_lacks : (y : ℕ × ℕ) (ws : List (ℕ × ℕ)) → vs ≡ y ∷ ws → false ≡ whole
    order_lacks y ws f = sym (ap (λ l. same [] (bare l)) f) ∙ none_left

-- the variables of a loop order up to those that are left were each met once, and each is used
pub record Passed (s : List ℕ) (order : VarList) (left : List (ℕ × ℕ)) (used seen : VarSet) : Type 0 where
  pub known : List ℕ
  pub set : SetOf known seen
  pub vars : Vars (bare left)
  pub all : (v : ℕ) → (has known v || has (bare left) v) ≡ has (vars_of s order) v
  pub faults : (us : List ℕ) → SetOf us used → first_fault (order_left us known left s order) ≡ first_fault (order_faults us s order)

pub passed_none : (s : List ℕ) (order : VarList) (left : List (ℕ × ℕ)) (used seen : VarSet) → left ≡ placed_of s order → Vars (vars_of s order) → NoVar seen → Passed s order left used seen
passed_none s order left used seen e vars none =
    let start : bare left ≡ vars_of s order = ap bare e ∙ bare_placed order.place (vars_of s order) in
    record {
      known = [];
      set = none;
      vars = subst Vars (sym start) vars;
      all = λ v. ap (λ l. has l v) start;
      faults = λ us su. ap (λ l. first_fault (order_left us [] l s order)) e;
    }

module _ (s : List ℕ) (order : VarList) (left : List (ℕ × ℕ)) (used seen : VarSet) (p : Passed s order left used seen) where
  module _ (x : ℕ × ℕ) (xs : List (ℕ × ℕ)) (e : left ≡ x ∷ xs) where
    vars_here : (is_var x.1 ≡ true) × Vars (bare xs)
    vars_here = subst (λ l. Vars (bare l)) e p.vars

    -- what is asked of a variable, by the sets and by the lists
    asked : (us : List ℕ) (b : Bool) → SetOf us used → b ≡ (in_set seen x.1 || not (in_set used x.1)) → (has p.known x.1 || not (has us x.1)) ≡ b
    asked us b su is = sym (is ∙ ap (λ y. y || not (in_set used x.1)) (p.set x.1 vars_here.0) ∙ ap (λ y. has p.known x.1 || not y) (su x.1 vars_here.0))

    at_first : (us : List ℕ) (b : Bool) → SetOf us used → b ≡ (in_set seen x.1 || not (in_set used x.1)) → cond b (Some x.0) (first_fault (order_left us (x.1 ∷ p.known) xs s order)) ≡ first_fault (order_faults us s order)
    at_first us b su is =
        ap (λ y. cond y (Some x.0) (first_fault (order_left us (x.1 ∷ p.known) xs s order))) (sym (asked us b su is))
        ∙ sym (ap (λ l. first_fault (order_left us p.known l s order)) e) ∙ p.faults us su

    pub stray_found : true ≡ (in_set seen x.1 || not (in_set used x.1)) → (us : List ℕ) → SetOf us used → Some x.0 ≡ first_fault (order_faults us s order)
    stray_found is us su = at_first us true su is

    pub passed_on : (new : VarSet) → false ≡ (in_set seen x.1 || not (in_set used x.1)) → (is_var x.1 ≡ true → With seen x.1 new) → Passed s order xs used new
    passed_on new is w = record {
      known = x.1 ∷ p.known;
      set = λ v var. w vars_here.0 v var ∙ ap (λ b. eqb x.1 v || b) (p.set v var);
      vars = vars_here.1;
      all = λ v. sym (or_swap (has p.known v) (eqb x.1 v) (has (bare xs) v)) ∙ sym (ap (λ l. has p.known v || has (bare l) v) e) ∙ p.all v;
      faults = λ us su. at_first us false su is;
    }

  module _ (e : left ≡ []) (us : List ℕ) (vars : Vars us) (su : SetOf us used) (r : Bool) (d : Decides r (Within used seen)) where
    all_known : SetOf (vars_of s order) seen
    all_known v is = p.set v is ∙ sym (or_none (has p.known v)) ∙ sym (ap (λ l. has p.known v || has (bare l) v) e) ∙ p.all v

    -- whether one is missing
    pub order_whole : cond (not r) (Some (length s)) None ≡ first_fault (order_faults us s order)
    order_whole =
        ap (λ b. cond (not b) (Some (length s)) None) (included us (vars_of s order) used seen r vars su all_known d)
        ∙ sym (ap (λ l. first_fault (order_left us p.known l s order)) e)
        ∙ p.faults us su
