-- What a walk over variables with their places finds among them. Assumes nothing.
use Rattle.std.proofs.Common.{◌≡◌, ℕ, zero, suc, ◌+◌, ◌*◌, ◌≤◌, min, Bool, true, false, ◌||◌, eqb, List, [], ◌∷◌, map, length, sym, refl, ap, ◌∙◌, arith}
use Rattle.std.specs.List.{list_any}
use Rattle.model.specs.Tensors.{has}
use Rattle.model.specs.Conditions.{repeats}
use Rattle.model.specs.Reading.{placed_vars}
use Rattle.reader.specs.declared.vars.VarList.{VarList}
use Rattle.reader.specs.declared.vars.Vars.{Vars}
use Rattle.reader.specs.Lists.{listed, vars_of, space}
use Rattle.reader.specs.Walked.{left}

-- variables without their places
abbrev pub bare : List (ℕ × ℕ) → List ℕ
bare xs = map (λ x. x.1) xs

pub bare_placed : (p : ℕ) (vs : List ℕ) → bare (placed_vars p vs) ≡ vs
bare_placed p [] = refl
bare_placed p (v ∷ vs) = ap (λ l. v ∷ l) (bare_placed (p + 2) vs)

pub any_has : (v : ℕ) (xs : List (ℕ × ℕ)) → list_any (λ (x : ℕ × ℕ). eqb x.1 v) xs ≡ has (bare xs) v
any_has v [] = refl
any_has v (x ∷ xs) = ap (λ b. eqb x.1 v || b) (any_has v xs)

-- a list that lies in the text has all its variables
pub vars_inside : (s : List ℕ) (v : VarList) → v.place + 2 * v.count ≤ length s + 1 → vars_of s v ≡ listed s v.place v.count
vars_inside s v h = let e : min v.count (space s v.place) ≡ v.count = omega arith in ap (listed s v.place) e

-- whether a variable stands twice, by the first of those that are left
module _ (xs ys : List (ℕ × ℕ)) (x : ℕ × ℕ) (whole : Bool) (inv : repeats (bare xs) ≡ whole) (e : xs ≡ x ∷ ys) where
  onward : has (bare ys) x.1 || repeats (bare ys) ≡ whole
  onward = sym (ap (λ l. repeats (bare l)) e) ∙ inv

  pub repeat_found : has (bare ys) x.1 ≡ true → true ≡ whole
  repeat_found h = sym (ap (λ b. b || repeats (bare ys)) h) ∙ onward

  pub repeat_later : has (bare ys) x.1 ≡ false → repeats (bare ys) ≡ whole
  repeat_later h = sym (ap (λ b. b || repeats (bare ys)) h) ∙ onward

length_placed : (s : List ℕ) (p n : ℕ) → length (placed_vars p (listed s p n)) ≡ n
length_placed s p zero = refl
length_placed s p (suc n) = ap suc (length_placed s (p + 2) n)

pub length_left : (v : Vars) → length (left v) ≡ v.list.count
length_left v = length_placed v.text.now v.list.place v.list.count
