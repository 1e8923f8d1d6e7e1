-- Levels that lie one behind another: one more, and words behind them.
use Rattle.std.proofs.Common.{◌≡◌, ℕ, ◌+◌, List, [], ◌∷◌, ◌++◌, map, take, drop, sum, sym, refl, ap, ◌∙◌, subst, ap₂, arith}
use Rattle.std.proofs.lemmas.List.{take-take, drop-take, drop-drop, map_push}
use Rattle.std.proofs.lemmas.List.Sums.{sum_by-cons, sum_by_push}
use Rattle.model.specs.Fibers.{Level}
use Rattle.model.specs.Formats.{LevelSize}
use Rattle.model.specs.Stores.{FormatRules}
use Rattle.slots.specs.Layouts.{needed, levels_on, Kept}

module _ (rules : FormatRules) where
  abbrev need_of : ℕ × LevelSize → ℕ
  need_of l = rules.need l.0 l.1

  pub needed_cons : (l : ℕ × LevelSize) (ls : List (ℕ × LevelSize)) → needed rules (l ∷ ls) ≡ need_of l + needed rules ls
  needed_cons l ls = sum_by-cons (λ x. x) (need_of l) (map need_of ls)

  pub needed_more : (ls : List (ℕ × LevelSize)) (l : ℕ × LevelSize) → needed rules (ls ++ l ∷ []) ≡ needed rules ls + need_of l
  needed_more ls l = ap sum (map_push need_of ls l) ∙ sum_by_push (λ x. x) (map need_of ls) (need_of l)

  module _ (meaning : ℕ → LevelSize → List ℕ → Level) (kept : ℕ → LevelSize → List ℕ → Type 0) where
    -- what lies behind the words that the levels need does not matter
    module _ (l : ℕ × LevelSize) (ls : List (ℕ × LevelSize)) (ws vs : List ℕ) (e : take (needed rules (l ∷ ls)) ws ≡ take (needed rules (l ∷ ls)) vs) where
      whole : take (need_of l + needed rules ls) ws ≡ take (need_of l + needed rules ls) vs
      whole = ap (λ n. take n ws) (sym (needed_cons l ls)) ∙ e ∙ ap (λ n. take n vs) (needed_cons l ls)

      front : take (need_of l) ws ≡ take (need_of l) vs
      front =
          sym (take-take (need_of l) (need_of l + needed rules ls) ws (omega arith)) ∙ ap (take (need_of l)) whole ∙ take-take (need_of l) (need_of l + needed rules ls) vs (omega arith)

      back : take (needed rules ls) (drop (need_of l) ws) ≡ take (needed rules ls) (drop (need_of l) vs)
      back = sym (drop-take (need_of l) (needed rules ls) ws) ∙ ap (drop (need_of l)) whole ∙ drop-take (need_of l) (needed rules ls) vs

    pub levels_front : (ls : List (ℕ × LevelSize)) (ws vs : List ℕ) → take (needed rules ls) ws ≡ take (needed rules ls) vs
        → levels_on rules meaning ls ws ≡ levels_on rules meaning ls vs
    levels_front [] ws vs e = refl
    levels_front (l ∷ ls) ws vs e =
        ap₂ (λ x (xs : List Level). meaning l.0 l.1 x ∷ xs) (front l ls ws vs e)
        (levels_front ls (drop (need_of l) ws) (drop (need_of l) vs) (back l ls ws vs e))

    pub kept_front : (ls : List (ℕ × LevelSize)) (ws vs : List ℕ) → take (needed rules ls) ws ≡ take (needed rules ls) vs
        → Kept rules kept ls ws → Kept rules kept ls vs
    kept_front [] ws vs e k = tt
    kept_front (l ∷ ls) ws vs e k =
        (subst (kept l.0 l.1) (front l ls ws vs e) k.0, kept_front ls (drop (need_of l) ws) (drop (need_of l) vs) (back l ls ws vs e) k.1)

    pub levels_more : (ls : List (ℕ × LevelSize)) (l : ℕ × LevelSize) (ws : List ℕ)
        → levels_on rules meaning (ls ++ l ∷ []) ws ≡ levels_on rules meaning ls ws ++ meaning l.0 l.1 (take (need_of l) (drop (needed rules ls) ws)) ∷ []
    levels_more [] l ws = refl
    levels_more (m ∷ ls) l ws =
        ap (λ (xs : List Level). meaning m.0 m.1 (take (need_of m) ws) ∷ xs)
        (levels_more ls l (drop (need_of m) ws)
        ∙ ap (λ x. levels_on rules meaning ls (drop (need_of m) ws) ++ meaning l.0 l.1 (take (need_of l) x) ∷ [])
        (drop-drop (needed rules ls) (need_of m) ws ∙ ap (λ n. drop n ws) (sym (needed_cons m ls))))

    pub kept_more : (ls : List (ℕ × LevelSize)) (l : ℕ × LevelSize) (ws : List ℕ) → Kept rules kept ls ws
        → kept l.0 l.1 (take (need_of l) (drop (needed rules ls) ws)) → Kept rules kept (ls ++ l ∷ []) ws
    kept_more [] l ws k h = (h, tt)
    kept_more (m ∷ ls) l ws k h = (
      k.0,
      kept_more ls l (drop (need_of m) ws) k.1
          (subst (λ x. kept l.0 l.1 (take (need_of l) x)) (ap (λ n. drop n ws) (needed_cons m ls) ∙ sym (drop-drop (needed rules ls) (need_of m) ws)) h),
    )
