-- Two rows compared coordinate by coordinate, one step on and at the end; and what the library says of lists searched, in the words of the model.
use Rattle.std.proofs.Common.{◌≡◌, ℕ, ◌+◌, ◌<◌, ◌≤◌, Bool, true, false, cond, ◌||◌, ltb, leb, List, [], ◌∷◌, length, get_or, drop, refl, ap, ◌∙◌, ap₂, arith}
use Rattle.std.specs.List.{zip, list_any}
use Rattle.std.proofs.lemmas.List.{drop_more, drop_all}
use Rattle.std.proofs.lemmas.Bool.{eq-eqb, ne_eqb, le-ltb}
use Rattle.model.specs.Tensors.{same}
use Rattle.model.specs.Running.{before}
use Rattle.model.specs.Stores.{outside, some_pass}

module _ (a b : List ℕ) (i : ℕ) where
  both : {Y : Type 0} (F : List ℕ → List ℕ → Y) → i < length a → i < length b
      → F (drop i a) (drop i b) ≡ F (get_or a i 0 ∷ drop (i + 1) a) (get_or b i 0 ∷ drop (i + 1) b)
  both F h k = ap₂ F (drop_more a i 0 h) (drop_more b i 0 k)

  pub before_ends : i < length a → length b ≤ i → before (drop i a) (drop i b) ≡ false
  before_ends h k = ap₂ before (drop_more a i 0 h) (drop_all i b k)

  pub before_all : length a ≤ i → before (drop i a) (drop i b) ≡ false
  before_all h = ap (λ x. before x (drop i b)) (drop_all i a h)

  pub before_differ : i < length a → i < length b → (get_or a i 0 ≡ get_or b i 0 → ⊥) → before (drop i a) (drop i b) ≡ ltb (get_or a i 0) (get_or b i 0)
  before_differ h k ne =
      both before h k
      ∙ ap (λ e. cond (ltb (get_or a i 0) (get_or b i 0)) true (cond e (before (drop (i + 1) a) (drop (i + 1) b)) false)) (ne_eqb (get_or a i 0) (get_or b i 0) ne)
      ∙ go (ltb (get_or a i 0) (get_or b i 0))
    where
      go : (t : _) → cond t true false ≡ t
      go true = refl
      go false = refl

  pub before_more : i < length a → i < length b → get_or a i 0 ≡ get_or b i 0 → before (drop i a) (drop i b) ≡ before (drop (i + 1) a) (drop (i + 1) b)
  before_more h k e =
      both before h k
      ∙ ap₂ (λ t e. cond t true (cond e (before (drop (i + 1) a) (drop (i + 1) b)) false)) (le-ltb (get_or a i 0) (get_or b i 0) (omega (arith, e))) (eq-eqb (get_or a i 0) (get_or b i 0) e)

  pub same_differ : i < length a → i < length b → (get_or a i 0 ≡ get_or b i 0 → ⊥) → same (drop i a) (drop i b) ≡ false
  same_differ h k ne = both same h k ∙ ap (λ e. cond e (same (drop (i + 1) a) (drop (i + 1) b)) false) (ne_eqb (get_or a i 0) (get_or b i 0) ne)

  pub same_more : i < length a → i < length b → get_or a i 0 ≡ get_or b i 0 → same (drop i a) (drop i b) ≡ same (drop (i + 1) a) (drop (i + 1) b)
  same_more h k e = both same h k ∙ ap (λ e. cond e (same (drop (i + 1) a) (drop (i + 1) b)) false) (eq-eqb (get_or a i 0) (get_or b i 0) e)

  pub same_all : length a ≤ i → length b ≤ i → same (drop i a) (drop i b) ≡ true
  same_all h k = ap₂ same (drop_all i a h) (drop_all i b k)

pub outside_any : (es cs : List ℕ) → length cs ≡ length es → list_any (λ (p : ℕ × ℕ). leb p.0 p.1) (zip es cs) ≡ outside es cs
outside_any [] [] h = refl
outside_any [] (c ∷ cs) h = absurd (omega arith)
outside_any (e ∷ es) [] h = absurd (omega arith)
outside_any (e ∷ es) (c ∷ cs) h = ap (λ t. leb e c || t) (outside_any es cs (omega arith))

pub some_pass_any : {A : Type 0} (p : A → Bool) (xs : List A) → list_any p xs ≡ some_pass p xs
some_pass_any p [] = refl
some_pass_any p (x ∷ xs) = ap (λ t. p x || t) (some_pass_any p xs)
