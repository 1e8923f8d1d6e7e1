-- What WRITE asks: the merged coordinate streams of a term nest, and the keys are depths among them. Assumes nothing.
use Rattle.std.proofs.Common.{◌≡◌, ℕ, suc, ◌+◌, ◌<◌, ◌≤◌, Bool, true, false, ◌||◌, eqb, List, [], ◌∷◌, map, reverse, length, sym, refl, ap, ◌∙◌, subst, arith}
use mathlib.Core.List.{reverse_aux}
use lib.ListN.{length-reverse}
use Rattle.std.specs.List.{AllByRecursion}
use Rattle.std.proofs.lemmas.Bool.{eq-eqb}
use Rattle.model.specs.Semirings.{Algebra}
use Rattle.model.specs.Tensors.{Storage, has}
use Rattle.model.specs.Trees.{Tree, Pairwise, Alike}
use Rattle.model.specs.Streams.{Stream}
use Rattle.model.specs.Terms.{Access, Expr}
use Rattle.model.specs.Commands.{WRITE}
use Rattle.model.specs.Lowering.{place}
use Rattle.model.specs.Shapes.{SameShape, Nested, Fits}
use Rattle.model.proofs.Fit.{Placed}
use Rattle.model.proofs.Fusion.{each_each}
use Rattle.model.proofs.ImageShapes.{alike_each}
use Rattle.model.proofs.Variables.{has_reverse, place_front}
use Rattle.model.proofs.Soundness.{StreamIs, made}
use Rattle.model.proofs.PathTrees.{LeafPath, live, tree, over}
use Rattle.model.proofs.LoopNests.{Merged, values_over}

-- a list beside an image of it
beside_image : {A B C : Type 0} (f : B → C) (g : A → B) (xs : List A) → Pairwise (λ (a : A) (c : C). Unit {0}) xs (map f (map g xs))
beside_image f g [] = tt
beside_image f g (x ∷ xs) = (tt, beside_image f g xs)

or_right : (a : Bool) → (a || true) ≡ true
or_right true = refl
or_right false = refl

all_images : (P : ℕ → Type 0) (f : ℕ → ℕ) (xs : List ℕ) → ((w : ℕ) → has xs w ≡ true → P (f w)) → AllByRecursion P (map f xs)
all_images P f [] h = tt
all_images P f (x ∷ xs) h =
    (h x (ap (λ b. b || has xs x) (eq-eqb x x refl)), all_images P f xs (λ w e. h w (ap (λ b. eqb x w || b) e ∙ or_right (eqb x w))))

module _ {V : Type 0} (K : Algebra V) (T : ℕ → Storage V) (acs : List Access) (body : Expr) (placed : Placed (length acs) body) where
  -- the coordinates of the innermost variable
  abbrev innermost : (vs : List ℕ) → Tree ℕ (length vs)
  innermost [] = 0
  innermost (v ∷ vs) = over K T acs body vs (live K T acs body v vs)

  innermost_shape : (B : Type 0) (vs : List ℕ) (f : LeafPath → B) → SameShape ℕ B (length vs) (innermost vs) (over K T acs body vs f)
  innermost_shape B [] f = tt
  innermost_shape B (v ∷ vs) f =
      subst (λ (u : Tree (List B) (length vs)). Alike (Pairwise (λ (a : ℕ) (b : B). Unit {0})) (length vs) (innermost (v ∷ vs)) u)
      (sym (each_each (map f) (λ p. map (λ c. c ∷ p) (live K T acs body v vs p)) (length vs) (tree K T acs body vs)))
      (alike_each (Pairwise (λ (a : ℕ) (b : B). Unit {0})) (live K T acs body v vs) (λ p. map f (map (λ c. c ∷ p) (live K T acs body v vs p))) (λ p. beside_image f (λ c. c ∷ p) (live K T acs body v vs p)) (length vs) (tree K T acs body vs))

  nested_from : (ss : List (Stream V)) (x : ℕ) (vs zs ws : List ℕ) → Merged K T acs body placed ss vs zs → Nested ss (length vs) (innermost vs) ws x → Nested ss 0 0 (reverse_aux zs ws) x
  nested_from ss x [] [] ws m h = h
  nested_from ss x [] (z ∷ zs) ws m h = absurd m
  nested_from ss x (v ∷ vs) [] ws m h = absurd m
  nested_from ss x (v ∷ vs) (z ∷ zs) ws m h =
      nested_from ss x vs zs (z ∷ ws) m.1 (over K T acs body vs (live K T acs body v vs), made K T m.0, innermost_shape (List ℕ) vs (live K T acs body v vs), h)

  merged_length : (ss : List (Stream V)) (vs zs : List ℕ) → Merged K T acs body placed ss vs zs → length zs ≡ length vs
  merged_length ss [] [] m = refl
  merged_length ss [] (z ∷ zs) m = absurd m
  merged_length ss (v ∷ vs) [] m = absurd m
  merged_length ss (v ∷ vs) (z ∷ zs) m = ap suc (merged_length ss vs zs m.1)

  pub write_fits :
      (ss : List (Stream V)) (left vs zs : List ℕ) (f : LeafPath → V) (x : ℕ) → Merged K T acs body placed ss vs zs → StreamIs K T ss x (values_over K T acs body placed vs f)
      → ((w : ℕ) → has left w ≡ true → has vs w ≡ true) → Fits (WRITE (length vs) x (reverse zs) (map (λ v. place (reverse vs) v + 1) left)) ss
  write_fits ss left vs zs f x m h lefts = (
    length-reverse zs ∙ merged_length ss vs zs m,
    nested_from ss x vs zs [] m (over K T acs body vs f, made K T h, innermost_shape V vs f),
    all_images (λ k. (1 ≤ k) × (k ≤ length vs)) (λ v. place (reverse vs) v + 1) left
        (λ w e. let lt : place (reverse vs) w < length (reverse vs) = (place_front (reverse vs) [] w (has_reverse vs w ∙ lefts w e)).1 in (omega arith, omega (arith, length-reverse vs))),
  )
