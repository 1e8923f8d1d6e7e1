-- References reached level by level through the words.
use Rattle.std.proofs.Common.{◌≡◌, ℕ, ◌+◌, ◌-◌, ◌<◌, ◌≤◌, min, List, ◌∷◌, length, get_or, take, drop, Option, sym, ap, ◌∙◌, subst, ap₂, ⊎_elim, arith}
use Rattle.std.proofs.lemmas.List.{take_all, drop_all, drop_more, drop-drop, length-drop}
use Rattle.std.proofs.lemmas.Bool.{cases_lt}
use Rattle.model.specs.Fibers.{Level, fiber_at, child}
use Rattle.model.specs.Formats.{LevelSize}
use Rattle.model.specs.Stores.{FormatRules}
use Rattle.model.specs.Tensors.{reached}
use Rattle.slots.specs.Layouts.{levels_on, Kept}
use Rattle.plans.specs.Rooms.{level_size}

-- a part that ends with the list at the latest
take_to : (n m : ℕ) (xs : List ℕ) → m ≡ min n (length xs) → take m xs ≡ take n xs
take_to n m xs e =
    ⊎_elim
    (λ h. ap (λ k. take k xs) (let z : m ≡ n = omega arith in z))
    (λ h. take_all m xs (omega arith) ∙ sym (take_all n xs (omega arith)))
    (cases_lt n (length xs))

drop_to : (n m : ℕ) (xs : List ℕ) → m ≡ min n (length xs) → drop m xs ≡ drop n xs
drop_to n m xs e =
    ⊎_elim
    (λ h. ap (λ k. drop k xs) (let z : m ≡ n = omega arith in z))
    (λ h. drop_all m xs (omega arith) ∙ sym (drop_all n xs (omega arith)))
    (cases_lt n (length xs))

module _ (rules : FormatRules) (meaning : ℕ → LevelSize → List ℕ → Level) (kept : ℕ → LevelSize → List ℕ → Type 0)
    (ls : List (ℕ × LevelSize)) (ws cs : List ℕ) (i start end : ℕ) (k : ℕ) (s : LevelSize)
    (long : i < length ls) (is : get_or ls i (0, level_size 0 0 0) ≡ (k, s)) (within : start ≤ length ws) (ends : end ≡ min (start + rules.need k s) (length ws)) where
  here : drop i ls ≡ (k, s) ∷ drop (i + 1) ls
  here = drop_more ls i (0, level_size 0 0 0) long ∙ ap (λ x. x ∷ drop (i + 1) ls) is

  pub its_words : take (end - start) (drop start ws) ≡ take (rules.need k s) (drop start ws)
  its_words = take_to (rules.need k s) (end - start) (drop start ws) (let l = length-drop start ws in omega arith)

  its_rest : drop (rules.need k s) (drop start ws) ≡ drop end ws
  its_rest = drop-drop (rules.need k s) start ws ∙ sym (drop_to (start + rules.need k s) end ws ends)

  pub kept_here : Kept rules kept (drop i ls) (drop start ws) → kept k s (take (end - start) (drop start ws))
  kept_here h = subst (kept k s) (sym its_words) (subst (λ x. Kept rules kept x (drop start ws)) here h).0

  pub kept_rest : Kept rules kept (drop i ls) (drop start ws) → Kept rules kept (drop (i + 1) ls) (drop end ws)
  kept_rest h = subst (λ x. Kept rules kept (drop (i + 1) ls) x) its_rest (subst (λ x. Kept rules kept x (drop start ws)) here h).1

  pub reached_step : (r n : Option ℕ) → i < length cs → n ≡ child (fiber_at (meaning k s (take (end - start) (drop start ws))) r) (get_or cs i 0)
      → reached (levels_on rules meaning (drop (i + 1) ls) (drop end ws)) n (drop (i + 1) cs) ≡ reached (levels_on rules meaning (drop i ls) (drop start ws)) r (drop i cs)
  reached_step r n h e =
      ap (λ x. reached (levels_on rules meaning (drop (i + 1) ls) (drop end ws)) x (drop (i + 1) cs)) (e ∙ ap (λ x. child (fiber_at (meaning k s x) r) (get_or cs i 0)) its_words)
      ∙ ap (λ x. reached (levels_on rules meaning (drop (i + 1) ls) x) (child (fiber_at (meaning k s (take (rules.need k s) (drop start ws))) r) (get_or cs i 0)) (drop (i + 1) cs)) (sym its_rest)
      ∙ sym (ap₂ (λ x y. reached (levels_on rules meaning x (drop start ws)) r y) here (drop_more cs i 0 h))

pub reached_end : (ls : List Level) (r : Option ℕ) (cs : List ℕ) (i : ℕ) → length cs ≤ i → reached ls r (drop i cs) ≡ r
reached_end ls r cs i h = ap (reached ls r) (drop_all i cs h)
