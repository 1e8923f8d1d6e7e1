-- A property that each command of a piece of a graph has, with one lemma for each way of joining pieces. Assumes nothing.
use Rattle.std.proofs.Common.{ℕ, Bool, List, [], ◌∷◌}
use Rattle.std.specs.List.{AllByRecursion}
use Rattle.std.proofs.ByRecursion.{All-append}
use Rattle.std.proofs.lemmas.Bool.{cond_both}
use Rattle.model.specs.Commands.{Command}
use Rattle.model.specs.Terms.{Expr, operand, product, sum, Parts, last, more}
use Rattle.model.specs.Lowering.{Lower, pure, then, emit, for_each, folded, fold, merge, merge_parts}

-- Wherever the streams go on from, each command of the piece has P, and what the piece is for has G.
abbrev pub Bears : {A : Type 0} → (Command → Type 0) → (A → Type 0) → Lower A → Type 0
Bears P G m = (n : ℕ) → AllByRecursion P (m n).commands × G (m n).result

-- nothing is asked of a stream's number, or of several
abbrev pub Any : {A : Type 0} → A → Type 0
Any a = Unit {0}

module _ (P : Command → Type 0) where
  pub pure_bears : {A : Type 0} (G : A → Type 0) (a : A) → G a → Bears P G (pure a)
  pure_bears G a g n = (tt, g)

  pub then_bears :
      {A B : Type 0} (G : A → Type 0) (H : B → Type 0) (m : Lower A) (f : A → Lower B) → Bears P G m → ((a : A) → G a → Bears P H (f a))
      → Bears P H (then m f)
  then_bears G H m f h k n =
      let first = h n in
      let next = k (m n).result first.1 (m n).next in
      (All-append P (m n).commands (f (m n).result (m n).next).commands first.0 next.0, next.1)

  pub emit_bears : (c : ℕ → Command) → ((out : ℕ) → P (c out)) → Bears P Any (emit c)
  emit_bears c h n = ((h n, tt), tt)

  pub each_bears :
      {A B : Type 0} (F : A → Type 0) (G : B → Type 0) (f : A → Lower B) → ((x : A) → F x → Bears P G (f x))
      → (xs : List A) → AllByRecursion F xs → Bears P (AllByRecursion G) (for_each f xs)
  each_bears F G f h [] g = pure_bears (AllByRecursion G) [] tt
  each_bears F G f h (x ∷ xs) g =
      then_bears G (AllByRecursion G) (f x) (λ y. then (for_each f xs) (λ ys. pure (y ∷ ys))) (h x g.0)
      λ y gy. then_bears (AllByRecursion G) (AllByRecursion G) (for_each f xs) (λ ys. pure (y ∷ ys)) (each_bears F G f h xs g.1)
      λ ys gs. pure_bears (AllByRecursion G) (y ∷ ys) (gy, gs)

  -- a command of two inputs and an output that has P whatever they are
  abbrev pub Always : (ℕ → ℕ → ℕ → Command) → Type 0
  Always op = (a b out : ℕ) → P (op a b out)

  folded_bears : (op : ℕ → ℕ → ℕ → Command) → Always op → (a : ℕ) (xs : List ℕ) → Bears P Any (folded op a xs)
  folded_bears op is a [] = pure_bears Any a tt
  folded_bears op is a (b ∷ bs) =
      then_bears Any Any (emit (op a b)) (λ c. folded op c bs) (emit_bears (op a b) (is a b)) (λ c g. folded_bears op is c bs)

  fold_bears : (op : ℕ → ℕ → ℕ → Command) → Always op → (xs : List ℕ) → Bears P Any (fold op xs)
  fold_bears op is [] = pure_bears {A = ℕ} Any 0 tt
  fold_bears op is (a ∷ rest) = folded_bears op is a rest

  module _ (mul add : ℕ → ℕ → ℕ → Command) (is_mul : Always mul) (is_add : Always add) (counts : Expr → Bool) (stream : ℕ → ℕ) where
    abbrev of_expression : Expr → Lower ℕ
    of_expression e = merge mul add counts stream e

    abbrev of_parts : Parts → Lower (List ℕ)
    of_parts ps = merge_parts mul add counts stream ps

    mutual
      pub merge_bears : (e : Expr) → Bears P Any (of_expression e)
      merge_bears (operand i) = pure_bears Any (stream i) tt
      merge_bears (product ps) = then_bears Any Any (of_parts ps) (fold mul) (parts_bear ps) (λ xs g. fold_bears mul is_mul xs)
      merge_bears (sum ps) = then_bears Any Any (of_parts ps) (fold add) (parts_bear ps) (λ xs g. fold_bears add is_add xs)

      parts_bear : (ps : Parts) → Bears P Any (of_parts ps)
      parts_bear (last e) =
          cond_both (counts e) (then (of_expression e) (λ a. pure (a ∷ []))) (pure []) (Bears P Any)
          (λ t. then_bears Any Any (of_expression e) (λ a. pure (a ∷ [])) (merge_bears e) (λ a g. pure_bears Any (a ∷ []) tt))
          (λ f. pure_bears {A = List ℕ} Any [] tt)
      parts_bear (more e ps) =
          cond_both (counts e) (then (of_expression e) (λ a. then (of_parts ps) (λ rest. pure (a ∷ rest)))) (of_parts ps) (Bears P Any)
          (
          λ t. then_bears Any Any (of_expression e) (λ a. then (of_parts ps) (λ rest. pure (a ∷ rest))) (merge_bears e)
          λ a g. then_bears Any Any (of_parts ps) (λ rest. pure (a ∷ rest)) (parts_bear ps) (λ rest r. pure_bears Any (a ∷ rest) tt)
          )
          (λ f. parts_bear ps)
