-- A graph at one of its commands: the commands before it fit, and its bytes stand behind theirs. Assumes nothing.
use Rattle.std.proofs.Common.{◌≡◌, ℕ, zero, suc, ◌+◌, ◌<◌, ◌≤◌, List, [], ◌∷◌, ◌++◌, length, get_or, take, drop, sym, refl, ap, ◌∙◌, append_assoc, le_of_suc-le-suc, not-suc-le-zero, arith, length-append}
use Rattle.std.specs.List.{flat_map}
use Rattle.std.proofs.lemmas.List.{drop_at}
use Rattle.model.specs.Semirings.{Algebra}
use Rattle.model.specs.Tensors.{Storage}
use Rattle.model.specs.Commands.{Command, bytes_of}
use Rattle.model.specs.Running.{State, step}
use Rattle.model.specs.Shapes.{AllFit}

-- of commands that all fit, so do the first k
pub fit_take : {V : Type 0} (K : Algebra V) (T : ℕ → Storage V) (k : ℕ) (cs : List Command) (s : State V) → AllFit K T cs s → AllFit K T (take k cs) s
fit_take K T zero cs s h = tt
fit_take K T (suc k) [] s h = tt
fit_take K T (suc k) (c ∷ cs) s h = (h.0, fit_take K T k cs (step K T c s) h.1)

-- what is joined, at its kth part
joined_at : {X A : Type 0} (f : X → List A) (k : ℕ) (xs : List X) (d : X) → k < length xs → flat_map f xs ≡ flat_map f (take k xs) ++ (f (get_or xs k d) ++ flat_map f (drop (suc k) xs))
joined_at f k [] d h = absurd (not-suc-le-zero h)
joined_at f zero (x ∷ xs) d h = refl
joined_at {X} {A} f (suc k) (x ∷ xs) d h =
    ap (λ (l : List A). f x ++ l) (joined_at f k xs d (le_of_suc-le-suc h))
    ∙ sym (append_assoc (f x) (flat_map f (take k xs)) (f (get_or xs k d) ++ flat_map f (drop (suc k) xs)))

pub joined_next : {X A : Type 0} (f : X → List A) (k : ℕ) (xs : List X) (d : X) → k < length xs → length (flat_map f (take (suc k) xs)) ≡ length (flat_map f (take k xs)) + length (f (get_or xs k d))
joined_next f k [] d h = absurd (not-suc-le-zero h)
joined_next f zero (x ∷ xs) d h = omega (arith, length-append (f x) [])
joined_next f (suc k) (x ∷ xs) d h =
    let more = joined_next f k xs d (le_of_suc-le-suc h) in
    omega (arith, more, length-append (f x) (flat_map f (take (suc k) xs)), length-append (f x) (flat_map f (take k xs)))

-- the bytes of the command at k stand behind those of the k before it
pub record Standing (bytes : List ℕ) (at : ℕ) (c : Command) : Type 0 where
  pub within : at ≤ length bytes
  pub rest : List ℕ
  pub stands : drop at bytes ≡ bytes_of c ++ rest

pub standing : (cs : List Command) (k : ℕ) (d : Command) (more bytes : List ℕ) (at : ℕ) → k < length cs → bytes ≡ flat_map bytes_of cs ++ more → at ≡ length (flat_map bytes_of (take k cs)) → Standing bytes at (get_or cs k d)
standing cs k d more bytes at h are place =
    let front = flat_map bytes_of (take k cs) in
    let back = bytes_of (get_or cs k d) ++ flat_map bytes_of (drop (suc k) cs) in
    let whole : bytes ≡ front ++ (back ++ more) = are ∙ ap (λ (l : List ℕ). l ++ more) (joined_at bytes_of k cs d h) ∙ append_assoc front back more in
    record {
      within = omega (arith, ap length whole, length-append front (back ++ more));
      rest = flat_map bytes_of (drop (suc k) cs) ++ more;
      stands =
          ap (drop at) whole ∙ drop_at front (back ++ more) at (sym place) ∙ append_assoc (bytes_of (get_or cs k d)) (flat_map bytes_of (drop (suc k) cs)) more;
    }
