-- Images of one tree have its shape. Assumes nothing.
use Rattle.std.proofs.Common.{ℕ, zero, suc, List, [], ◌∷◌, map}
use Rattle.std.specs.List.{AllByRecursion}
use Rattle.model.specs.Trees.{Tree, each, Pairwise, Alike}
use Rattle.model.specs.Shapes.{SameShape, Every}

pairwise_map : {A B C : Type 0} (R : B → C → Type 0) (f : A → B) (g : A → C) → ((a : A) → R (f a) (g a)) → (xs : List A) → Pairwise R (map f xs) (map g xs)
pairwise_map R f g h [] = tt
pairwise_map R f g h (x ∷ xs) = (h x, pairwise_map R f g h xs)

pub alike_each : {A B C : Type 0} (R : B → C → Type 0) (f : A → B) (g : A → C) → ((a : A) → R (f a) (g a)) → (d : ℕ) (t : Tree A d) → Alike R d (each f d t) (each g d t)
alike_each R f g h zero t = h t
alike_each R f g h (suc d) t = alike_each (Pairwise R) (map f) (map g) (pairwise_map R f g h) d t

pub same_shape : {A B C : Type 0} (f : A → B) (g : A → C) (d : ℕ) (t : Tree A d) → SameShape B C d (each f d t) (each g d t)
same_shape {A} {B} {C} f g d t = alike_each (λ (b : B) (c : C). Unit {0}) f g (λ a. tt) d t

all_images : {A B : Type 0} (P : B → Type 0) (f : A → B) → ((a : A) → P (f a)) → (xs : List A) → AllByRecursion P (map f xs)
all_images P f h [] = tt
all_images P f h (x ∷ xs) = (h x, all_images P f h xs)

pub every_each : {A B : Type 0} (P : B → Type 0) (f : A → B) → ((a : A) → P (f a)) → (d : ℕ) (t : Tree A d) → Every P d (each f d t)
every_each P f h zero t = h t
every_each P f h (suc d) t = every_each (AllByRecursion P) (map f) (all_images P f h) d t

-- two images of a list stand side by side
pub two_images : {A B C : Type 0} (f : A → B) (g : A → C) (xs : List A) → Pairwise (λ (b : B) (c : C). Unit {0}) (map f xs) (map g xs)
two_images {A} {B} {C} f g xs = pairwise_map (λ (b : B) (c : C). Unit {0}) f g (λ a. tt) xs
