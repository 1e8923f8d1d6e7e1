-- How long tapes are: it depends on the shape of the tree alone. Assumes nothing.
use Rattle.std.proofs.Common.{◌≡◌, ℕ, zero, suc, ◌+◌, List, [], ◌∷◌, ◌++◌, map, length, refl, arith, length-append}
use Rattle.std.specs.List.{flat_map}
use Rattle.model.specs.Semirings.{zipped}
use Rattle.model.specs.Tokens.{Token, stop}
use Rattle.model.specs.Trees.{Tree, tokens, each, beside, gathered, Pairwise, Alike, sizes, numbers, renumbered}

abbrev closed : {A : Type 0} → (A → List Token) → ℕ → List A → List Token
closed leaf n xs = flat_map leaf xs ++ stop n ∷ []

-- f of each leaf
list_each : {A B : Type 0} (leaf : A → List Token) (out : B → List Token) (f : A → B) → ((a : A) → length (out (f a)) ≡ length (leaf a)) → (xs : List A) → length (flat_map out (map f xs)) ≡ length (flat_map leaf xs)
list_each leaf out f h [] = refl
list_each leaf out f h (x ∷ xs) = omega (arith, length-append (out (f x)) (flat_map out (map f xs)), length-append (leaf x) (flat_map leaf xs), h x, list_each leaf out f h xs)

pub length_each : {A B : Type 0} (leaf : A → List Token) (out : B → List Token) (f : A → B) → ((a : A) → length (out (f a)) ≡ length (leaf a)) → (n m d : ℕ) (t : Tree A d) → length (tokens out n d (each f d t)) ≡ length (tokens leaf m d t)
length_each leaf out f h n m zero t = h t
length_each leaf out f h n m (suc d) t =
    length_each (closed leaf m) (closed out n) (map f) (λ xs. omega (arith, length-append (flat_map out (map f xs)) (stop n ∷ []), length-append (flat_map leaf xs) (stop m ∷ []), list_each leaf out f h xs)) (suc n) (suc m) d t

-- leaves counted on
list_numbers : {A B : Type 0} (leaf : A → List Token) (out : B → List Token) (f : ℕ → A → B) (size : A → ℕ) → ((k : ℕ) (a : A) → length (out (f k a)) ≡ length (leaf a)) → (k : ℕ) (xs : List A) → length (flat_map out (numbers f size k xs)) ≡ length (flat_map leaf xs)
list_numbers leaf out f size h k [] = refl
list_numbers leaf out f size h k (x ∷ xs) =
    omega (arith, length-append (out (f k x)) (flat_map out (numbers f size (k + size x) xs)), length-append (leaf x) (flat_map leaf xs), h k x, list_numbers leaf out f size h (k + size x) xs)

pub length_numbered : {A B : Type 0} (leaf : A → List Token) (out : B → List Token) (f : ℕ → A → B) (size : A → ℕ) → ((k : ℕ) (a : A) → length (out (f k a)) ≡ length (leaf a)) → (n m d k : ℕ) (t : Tree A d) → length (tokens out n d (renumbered f size d k t)) ≡ length (tokens leaf m d t)
length_numbered leaf out f size h n m zero k t = h k t
length_numbered leaf out f size h n m (suc d) k t =
    length_numbered (closed leaf m) (closed out n) (numbers f size) (sizes size)
    (λ j xs. omega (arith, length-append (flat_map out (numbers f size j xs)) (stop n ∷ []), length-append (flat_map leaf xs) (stop m ∷ []), list_numbers leaf out f size h j xs)) (suc n) (suc m) d k t

-- f of two leaves: a relation of the three lengths that adding up keeps
module _ (R3 : ℕ → ℕ → ℕ → Type 0) (adds : (a b c e x y : ℕ) → R3 a c x → R3 b e y → R3 (a + b) (c + e) (x + y)) (stops : R3 1 1 1) (none : R3 0 0 0) where
  list_beside : {A B C : Type 0} (left : A → List Token) (right : B → List Token) (out : C → List Token) (R : A → B → Type 0) (f : A → B → C)
      → ((a : A) (b : B) → R a b → R3 (length (out (f a b))) (length (left a)) (length (right b))) → (xs : List A) (ys : List B) → Pairwise R xs ys
      → R3 (length (flat_map out (zipped f xs ys))) (length (flat_map left xs)) (length (flat_map right ys))
  list_beside left right out R f h [] [] r = none
  list_beside left right out R f h [] (y ∷ ys) r = absurd r
  list_beside left right out R f h (x ∷ xs) [] r = absurd r
  list_beside left right out R f h (x ∷ xs) (y ∷ ys) r =
      rw (length-append (out (f x y)) (flat_map out (zipped f xs ys)), length-append (left x) (flat_map left xs), length-append (right y) (flat_map right ys))
      (adds _ _ _ _ _ _ (h x y r.0) (list_beside left right out R f h xs ys r.1))

  pub length_beside : {A B C : Type 0} (left : A → List Token) (right : B → List Token) (out : C → List Token) (R : A → B → Type 0) (f : A → B → C) (o : C)
      → ((a : A) (b : B) → R a b → R3 (length (out (f a b))) (length (left a)) (length (right b))) → (n m k d : ℕ) (t : Tree A d) (u : Tree B d) → Alike R d t u
      → R3 (length (tokens out n d (beside f o d d t u))) (length (tokens left m d t)) (length (tokens right k d u))
  length_beside left right out R f o h n m k zero t u r = h t u r
  length_beside left right out R f o h n m k (suc d) t u r =
      length_beside (closed left m) (closed right k) (closed out n) (Pairwise R) (zipped f) []
      (
      λ xs ys e.
      rw (length-append (flat_map out (zipped f xs ys)) (stop n ∷ []), length-append (flat_map left xs) (stop m ∷ []), length-append (flat_map right ys) (stop k ∷ []))
      (adds _ _ _ _ _ _ (list_beside left right out R f h xs ys e) stops)
      )
      (suc n) (suc m) (suc k) d t u r

-- f of each leaf, beside what is gathered of it
list_gathers : {A B X : Type 0} (leaf : A → List Token) (out : B → List Token) (f : A → B) (g : A → List X) → ((a : A) → length (out (f a)) + length (g a) ≡ length (leaf a)) → (xs : List A) → length (flat_map out (map f xs)) + length (flat_map g xs) ≡ length (flat_map leaf xs)
list_gathers leaf out f g h [] = refl
list_gathers leaf out f g h (x ∷ xs) =
    omega (arith, length-append (out (f x)) (flat_map out (map f xs)), length-append (leaf x) (flat_map leaf xs), length-append (g x) (flat_map g xs), h x, list_gathers leaf out f g h xs)

pub length_gathers : {A B X : Type 0} (leaf : A → List Token) (out : B → List Token) (f : A → B) (g : A → List X) → ((a : A) → length (out (f a)) + length (g a) ≡ length (leaf a)) → (n m d : ℕ) (t : Tree A d) → length (tokens out n d (each f d t)) + length (gathered g d t) ≡ length (tokens leaf m d t)
length_gathers leaf out f g h n m zero t = h t
length_gathers leaf out f g h n m (suc d) t =
    length_gathers (closed leaf m) (closed out n) (map f) (flat_map g) (λ xs. omega (arith, length-append (flat_map out (map f xs)) (stop n ∷ []), length-append (flat_map leaf xs) (stop m ∷ []), list_gathers leaf out f g h xs)) (suc n) (suc m) d t

-- as many leaves gathered on either side
list_leaves : {A B C X Y : Type 0} (R : A → B → Type 0) (f : A → B → C) (g : C → List X) (p : A → List Y) → ((a : A) (b : B) → R a b → length (g (f a b)) ≡ length (p a)) → (xs : List A) (ys : List B) → Pairwise R xs ys → length (flat_map g (zipped f xs ys)) ≡ length (flat_map p xs)
list_leaves R f g p h [] [] r = refl
list_leaves R f g p h [] (y ∷ ys) r = absurd r
list_leaves R f g p h (x ∷ xs) [] r = absurd r
list_leaves R f g p h (x ∷ xs) (y ∷ ys) r = omega (arith, length-append (g (f x y)) (flat_map g (zipped f xs ys)), length-append (p x) (flat_map p xs), h x y r.0, list_leaves R f g p h xs ys r.1)

pub leaves_beside : {A B C X Y : Type 0} (R : A → B → Type 0) (f : A → B → C) (o : C) (g : C → List X) (p : A → List Y) → ((a : A) (b : B) → R a b → length (g (f a b)) ≡ length (p a)) → (d : ℕ) (t : Tree A d) (u : Tree B d) → Alike R d t u → length (gathered g d (beside f o d d t u)) ≡ length (gathered p d t)
leaves_beside R f o g p h zero t u r = h t u r
leaves_beside R f o g p h (suc d) t u r = leaves_beside (Pairwise R) (zipped f) [] (flat_map g) (flat_map p) (list_leaves R f g p h) d t u r
