-- The variables of a line are the small letters of its text. Assumes nothing.
use Rattle.std.proofs.Common.{◌≡◌, ℕ, zero, suc, ◌+◌, ◌-◌, ◌<◌, ◌≤◌, Bool, true, false, cond, not, ◌&&◌, ◌||◌, eqb, List, [], ◌∷◌, length, get_or, drop, Some, None, sym, refl, ap, ◌∙◌, subst, ⊎_elim, arith}
use Rattle.std.proofs.lemmas.List.{at_drop_more, at_drop_all}
use Rattle.std.proofs.lemmas.Bool.{and_parts, and_cases, not-true, not-false}
use Rattle.model.specs.Tensors.{has}
use Rattle.model.specs.Grammar.{is_var}
use Rattle.model.specs.Conditions.{first_fault, beyond, places, firsts}
use Rattle.lines.specs.declared.sets.VarSet.{VarSet}
use Rattle.lines.specs.Sets.{in_set, NoVar, With, SetOf}
use Rattle.lines.specs.Limits.{letters}

-- so many different variables stand before i
pub record Counted (s : List ℕ) (i : ℕ) (seen : VarSet) (count : ℕ) : Type 0 where
  pub known : List ℕ
  pub set : SetOf known seen
  pub few : count ≤ 4
  pub left : first_fault (beyond (4 - count) (places (firsts known (letters i (drop i s))))) ≡ first_fault (beyond 4 (places (firsts [] (letters 0 s))))

pub counted_none : (s : List ℕ) (seen : VarSet) → NoVar seen → Counted s 0 seen 0
counted_none s seen none = record { known = []; set = none; few = omega arith; left = refl }

module _ (s : List ℕ) (i : ℕ) (seen : VarSet) (count : ℕ) (p : Counted s i seen count) where
  pub counted_all : length s ≤ i → None ≡ first_fault (beyond 4 (places (firsts [] (letters 0 s))))
  counted_all h = ends (4 - count) ∙ sym (at_drop_all (λ l. first_fault (beyond (4 - count) (places (firsts p.known (letters i l))))) s i h) ∙ p.left
    where
      ends : (n : ℕ) → None ≡ first_fault (beyond n [])
      ends zero = refl
      ends (suc n) = refl

  module _ (h : i < length s) where
    -- the letters from here on, by whether one stands here
    here : (b : Bool) → is_var (get_or s i 0) ≡ b → first_fault (beyond (4 - count) (places (firsts p.known (cond b ((i, get_or s i 0) ∷ letters (i + 1) (drop (i + 1) s)) (letters (i + 1) (drop (i + 1) s)))))) ≡ first_fault (beyond 4 (places (firsts [] (letters 0 s))))
    here b e =
        ap (λ x. first_fault (beyond (4 - count) (places (firsts p.known (cond x ((i, get_or s i 0) ∷ letters (i + 1) (drop (i + 1) s)) (letters (i + 1) (drop (i + 1) s))))))) (sym e)
        ∙ sym (at_drop_more (λ l. first_fault (beyond (4 - count) (places (firsts p.known (letters i l))))) s i 0 h) ∙ p.left

    -- by whether it is known
    which : is_var (get_or s i 0) ≡ true → (b : Bool) → has p.known (get_or s i 0) ≡ b → first_fault (beyond (4 - count) (places (cond b (firsts p.known (letters (i + 1) (drop (i + 1) s))) ((i, get_or s i 0) ∷ firsts (get_or s i 0 ∷ p.known) (letters (i + 1) (drop (i + 1) s)))))) ≡ first_fault (beyond 4 (places (firsts [] (letters 0 s))))
    which var b e =
        ap (λ x. first_fault (beyond (4 - count) (places (cond x (firsts p.known (letters (i + 1) (drop (i + 1) s))) ((i, get_or s i 0) ∷ firsts (get_or s i 0 ∷ p.known) (letters (i + 1) (drop (i + 1) s))))))) (sym e)
        ∙ here true var

    pub counted_skips : (new : VarSet) (m : ℕ) → new ≡ seen → m ≡ count → false ≡ (is_var (get_or s i 0) && not (in_set seen (get_or s i 0))) → Counted s (i + 1) new m
    counted_skips new m same_set same_count e =
        subst (λ x. Counted s (i + 1) x m) (sym same_set) (subst (Counted s (i + 1) seen) (sym same_count) (record {
          known = p.known;
          set = p.set;
          few = p.few;
          left = ⊎_elim
              (λ no_var. here false no_var)
              (λ old. by_var (is_var (get_or s i 0)) refl old)
              (and_cases (is_var (get_or s i 0)) (not (in_set seen (get_or s i 0))) (sym e));
        }))
      where
        by_var : (b : Bool) → is_var (get_or s i 0) ≡ b → not (in_set seen (get_or s i 0)) ≡ false → first_fault (beyond (4 - count) (places (firsts p.known (letters (i + 1) (drop (i + 1) s))))) ≡ first_fault (beyond 4 (places (firsts [] (letters 0 s))))
        by_var true var old = which var true (sym (p.set (get_or s i 0) var) ∙ not-false (in_set seen (get_or s i 0)) old)
        by_var false no_var old = here false no_var

    module _ (e : true ≡ (is_var (get_or s i 0) && not (in_set seen (get_or s i 0)))) where
      pub new_var : is_var (get_or s i 0) ≡ true
      new_var = (and_parts (is_var (get_or s i 0)) (not (in_set seen (get_or s i 0))) (sym e)).0

      unknown : has p.known (get_or s i 0) ≡ false
      unknown = sym (p.set (get_or s i 0) new_var) ∙ not-true (in_set seen (get_or s i 0)) (and_parts (is_var (get_or s i 0)) (not (in_set seen (get_or s i 0))) (sym e)).1

      pub fifth_found : 4 ≤ count → Some i ≡ first_fault (beyond 4 (places (firsts [] (letters 0 s))))
      fifth_found over =
          let none : 0 ≡ 4 - count = omega (arith, p.few) in
          ap (λ n. first_fault (beyond n (places ((i, get_or s i 0) ∷ firsts (get_or s i 0 ∷ p.known) (letters (i + 1) (drop (i + 1) s)))))) none ∙ which new_var false unknown

      pub counted_on : (new : VarSet) (m : ℕ) → count < 4 → m ≡ count + 1 → With seen (get_or s i 0) new → Counted s (i + 1) new m
      counted_on new m lt is w = record {
        known = get_or s i 0 ∷ p.known;
        set = λ v var. w v var ∙ ap (λ b. eqb (get_or s i 0) v || b) (p.set v var);
        few = omega arith;
        left =
            let less : suc (4 - m) ≡ 4 - count = omega arith in
            ap (λ n. first_fault (beyond n (places ((i, get_or s i 0) ∷ firsts (get_or s i 0 ∷ p.known) (letters (i + 1) (drop (i + 1) s)))))) less ∙ which new_var false unknown;
      }
