-- Values put at places: one step on, and what then stands at a place.
use Rattle.std.proofs.Common.{◌≡◌, ℕ, zero, suc, ◌+◌, ◌<◌, ◌≤◌, List, [], ◌∷◌, map, length, get_or, drop, set, replicate, sym, refl, ap, ◌∙◌, ap₂, arith}
use Rattle.std.proofs.lemmas.List.{drop_more, drop_all, length-set, get_or-set_same, get_or-set_other}
use Rattle.tensors.specs.Fillings.{scattered}

module _ {X : Type 0} where
  pub scatter_more : (os : List ℕ) (vs xs : List X) (k : ℕ) (d : X) → k < length os → k < length vs
      → scattered (drop k os) (drop k vs) xs ≡ scattered (drop (k + 1) os) (drop (k + 1) vs) (set xs (get_or os k 0) (get_or vs k d))
  scatter_more os vs xs k d h i = ap₂ (λ x y. scattered x y xs) (drop_more os k 0 h) (drop_more vs k d i)

  pub scatter_all : (os : List ℕ) (vs xs : List X) (k : ℕ) → length os ≤ k → scattered (drop k os) (drop k vs) xs ≡ xs
  scatter_all os vs xs k h = ap (λ x. scattered x (drop k vs) xs) (drop_all k os h)

  pub scattered_long : (os : List ℕ) (vs xs : List X) → length (scattered os vs xs) ≡ length xs
  scattered_long [] vs xs = refl
  scattered_long (o ∷ os) [] xs = refl
  scattered_long (o ∷ os) (v ∷ vs) xs = scattered_long os vs (set xs o v) ∙ length-set xs o v

  -- where nothing is put, what was there stays
  pub scattered_other : (os : List ℕ) (vs xs : List X) (p : ℕ) (d : X) → ((k : ℕ) → k < length os → get_or os k 0 ≡ p → ⊥) → get_or (scattered os vs xs) p d ≡ get_or xs p d
  scattered_other [] vs xs p d h = refl
  scattered_other (o ∷ os) [] xs p d h = refl
  scattered_other (o ∷ os) (v ∷ vs) xs p d h =
      scattered_other os vs (set xs o v) p d (λ k l. h (suc k) (omega arith)) ∙ get_or-set_other xs o p v d (λ e. h 0 (omega arith) (sym e))

  -- where one value is put and no other, it stands
  pub scattered_at : (os : List ℕ) (vs xs : List X) (k : ℕ) (d : X) → k < length os → k < length vs → get_or os k 0 < length xs
      → ((j m : ℕ) → j < length os → m < length os → get_or os j 0 ≡ get_or os m 0 → j ≡ m) → get_or (scattered os vs xs) (get_or os k 0) d ≡ get_or vs k d
  scattered_at [] vs xs k d h i l one = absurd (omega arith)
  scattered_at (o ∷ os) [] xs k d h i l one = absurd (omega arith)
  scattered_at (o ∷ os) (v ∷ vs) xs zero d h i l one =
      scattered_other os vs (set xs o v) o d (λ k g e. let z = one (suc k) 0 (omega arith) (omega arith) e in absurd (omega arith)) ∙ get_or-set_same xs o v d l
  scattered_at (o ∷ os) (v ∷ vs) xs (suc k) d h i l one =
      scattered_at os vs (set xs o v) k d (omega arith) (omega arith) (omega (arith, length-set xs o v))
      (λ j m g n e. let z = one (suc j) (suc m) (omega arith) (omega arith) e in omega arith)

pub map_replicate : {X Y : Type 0} (f : X → Y) (n : ℕ) (x : X) → map f (replicate n x) ≡ replicate n (f x)
map_replicate f zero x = refl
map_replicate f (suc n) x = ap (λ xs. f x ∷ xs) (map_replicate f n x)
