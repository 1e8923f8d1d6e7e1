-- A table whose keys are filled up with zeros lists what the table lists, once the zeros are cut off. Assumes nothing.
use Rattle.std.proofs.Common.{◌≡◌, ℕ, zero, suc, ◌≤◌, List, [], ◌∷◌, map, length, take, Some, None, Option, refl, ap, ◌∙◌, subst, arith}
use Rattle.std.specs.List.{slice_get}
use Rattle.std.specs.Option.{option_map}
use Rattle.std.proofs.lemmas.Bool.{cond_both}
use Rattle.model.specs.Semirings.{Algebra}
use Rattle.model.specs.Blocks.{Key}
use Rattle.model.specs.Commands.{filled}
use Rattle.model.specs.Running.{Table, results}
use Rattle.results.specs.Padding.{padded, Wide}
use Rattle.results.proofs.Filling.{padding}

mapped_nth : {A B : Type 0} (f : A → B) (xs : List A) (n : ℕ) → option_map f (slice_get xs n) ≡ slice_get (map f xs) n
mapped_nth f [] n = refl
mapped_nth f (x ∷ xs) zero = refl
mapped_nth f (x ∷ xs) (suc n) = mapped_nth f xs n

mapped_mapped : {A B C : Type 0} (f : B → C) (g : A → B) (o : Option A) → option_map (λ x. f (g x)) o ≡ option_map f (option_map g o)
mapped_mapped f g None = refl
mapped_mapped f g (Some x) = refl

take_filled : (n : ℕ) (k : Key) → length k ≤ n → take (length k) (filled n 0 k) ≡ k
take_filled n [] h = refl
take_filled zero (c ∷ k) h = absurd (omega arith)
take_filled (suc n) (c ∷ k) h = ap (λ (x : Key). c ∷ x) (take_filled n k (omega arith))

module _ {V : Type 0} where
  -- the first m coordinates of a key
  abbrev cut : ℕ → Key × V → Key × V
  cut m e = (take m e.0, e.1)

  cut_padded : (n m : ℕ) → m ≤ n → (t : Table V) → Wide m t → map (cut m) (padded n t) ≡ t
  cut_padded n m l [] w = refl
  cut_padded n m l (e ∷ es) w =
      let k : take m (filled n 0 e.0) ≡ e.0 =
      subst (λ i. take i (filled n 0 e.0) ≡ e.0) w.0 (take_filled n e.0 (omega (arith, w.0))) in
      ap (λ (x : Key). (x, e.1) ∷ map (cut m) (padded n es)) k ∙ ap (λ (x : Table V). e ∷ x) (cut_padded n m l es w.1)

  module _ (K : Algebra V) where
    results_wide : (m : ℕ) (t : Table V) → Wide m t → Wide m (results K t)
    results_wide m [] w = tt
    results_wide m (e ∷ es) w =
        cond_both (K.is_zero e.1) (results K es) (e ∷ results K es) (Wide m) (λ _. results_wide m es w.1) (λ _. (w.0, results_wide m es w.1))

    -- what is found in the padded table, cut to the coordinates of its keys, is what stands in the table
    pub cut_listing :
        {A : Type 0} (f : A → Key × V) (found : Option A) (p m n : ℕ) → m ≤ p → (t u : Table V) → Wide m t → u ≡ padded p t
        → option_map f found ≡ slice_get (results K u) n → option_map (λ e. (take m (f e).0, (f e).1)) found ≡ slice_get (results K t) n
    cut_listing f found p m n l t u w e h =
        mapped_mapped (cut m) f found
        ∙ ap (option_map (cut m)) h
        ∙ mapped_nth (cut m) (results K u) n
        ∙ ap (λ (x : Table V). slice_get (map (cut m) (results K x)) n) e
        ∙ ap (λ (x : Table V). slice_get (map (cut m) x) n) ((padding K p).results_kept t)
        ∙ ap (λ (x : Table V). slice_get x n) (cut_padded p m l (results K t) (results_wide m t w))
