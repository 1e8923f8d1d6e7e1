-- A command of the model, held and read back.
use Rattle.std.proofs.Common.{◌≡◌, ℕ, zero, suc, ◌≤◌, eqb, List, [], ◌∷◌, ◌++◌, length, take, Option, Result, sym, refl, ap, ◌∙◌, arith}
use Rattle.std.specs.List.{AllByRecursion}
use Rattle.std.proofs.lemmas.Bool.{ne_eqb, cond-false}
use Rattle.commands.specs.declared.command.Command.{Command}
use Rattle.commands.specs.declared.command.UnknownCommand.{UnknownCommand}
use Rattle.commands.specs.Bytes.{depth_streams, key_depths, Rereads}
use Rattle.commands.proofs.Operands.{spread_all}
use Rattle.model.specs.Commands as model
use Rattle.model.specs.Commands.{bytes_of, filled}
use Rattle.commands.specs.Held.{held, streams_held, keys_held, nonzero_front, Kept, ReadsModel}

pub length_filled : (n fill : ℕ) (xs : List ℕ) → length (filled n fill xs) ≡ n
length_filled zero fill xs = refl
length_filled (suc n) fill [] = ap suc (length_filled n fill [])
length_filled (suc n) fill (x ∷ xs) = ap suc (length_filled n fill xs)

-- what was filled up, taken off again
take_filled : (n fill : ℕ) (xs : List ℕ) → length xs ≤ n → take (length xs) (filled n fill xs) ≡ xs
take_filled n fill [] h = refl
take_filled zero fill (x ∷ xs) h = absurd (omega arith)
take_filled (suc n) fill (x ∷ xs) h = ap (λ ys. x ∷ ys) (take_filled n fill xs (omega arith))

front_of_fill : (n : ℕ) → nonzero_front (filled n 0 []) ≡ []
front_of_fill zero = refl
front_of_fill (suc n) = refl

front_filled : (d n : ℕ) (xs : List ℕ) → length xs ≤ n → AllByRecursion (λ k. (1 ≤ k) × (k ≤ d)) xs → nonzero_front (filled n 0 xs) ≡ xs
front_filled d n [] h a = front_of_fill n
front_filled d zero (x ∷ xs) h a = absurd (omega arith)
front_filled d (suc n) (x ∷ xs) h a = cond-false (eqb x 0) [] (x ∷ nonzero_front (filled n 0 xs)) (ne_eqb x 0 (λ e. omega (arith, a.0.0))) ∙ ap (λ ys. x ∷ ys) (front_filled d n xs (omega arith) a.1)

pub kept : (m : model.Command) → Kept m
kept (model.ROOT out) = record { same = refl; again = λ s. refl }
kept (model.SCAN t l r c k) = record { same = refl; again = λ s. refl }
kept (model.MEET a b out) = record { same = refl; again = λ s. refl }
kept (model.JOIN a b out) = record { same = refl; again = λ s. refl }
kept (model.ALIGN c r z out) = record { same = refl; again = λ s. refl }
kept (model.REPEAT r z out) = record { same = refl; again = λ s. refl }
kept (model.LOAD t r out) = record { same = refl; again = λ s. refl }
kept (model.MUL a b out) = record { same = refl; again = λ s. refl }
kept (model.ADD a b out) = record { same = refl; again = λ s. refl }
kept (model.SUM a out) = record { same = refl; again = λ s. refl }
kept (model.WRITE d v zs ks) =
    let fours : depth_streams (streams_held (filled 4 0xFF zs)) ≡ filled 4 0xFF zs = spread_all 4 (filled 4 0xFF zs) (length_filled 4 0xFF zs) in
    let threes : key_depths (keys_held (filled 3 0x00 ks)) ≡ filled 3 0x00 ks = spread_all 3 (filled 3 0x00 ks) (length_filled 3 0x00 ks) in
    record {
      same = ap (λ x. 0x0B ∷ d ∷ v ∷ (x ++ key_depths (keys_held (filled 3 0x00 ks)))) fours ∙ ap (λ x. 0x0B ∷ d ∷ v ∷ (filled 4 0xFF zs ++ x)) threes;
      again = λ s.
          let o = s.operands in
          let depth : length zs ≡ d = o.1 in
          let crds : take d (depth_streams (streams_held (filled 4 0xFF zs))) ≡ zs =
          ap (take d) fours ∙ ap (λ (k : ℕ). take k (filled 4 0xFF zs)) (sym depth) ∙ take_filled 4 0xFF zs (omega arith) in
          let keys : nonzero_front (key_depths (keys_held (filled 3 0x00 ks))) ≡ ks = ap nonzero_front threes ∙ front_filled d 3 ks o.2 o.3 in
          ap (λ x. model.WRITE d v x (nonzero_front (key_depths (keys_held (filled 3 0x00 ks))))) crds ∙ ap (model.WRITE d v zs) keys;
    }

pub reads_model : (s : List ℕ) (r : Result (Option Command) UnknownCommand) → Rereads s r → ReadsModel s r
reads_model s r again m rest small e =
    let k = kept m in
    (again (held m) rest (e ∙ ap (λ x. x ++ rest) (sym k.same)), k.again small)
