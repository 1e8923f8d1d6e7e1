-- Rows of legs as stored values. Assumes nothing.
use Rattle.std.proofs.Common.{◌≡◌, ℕ, ◌<◌, List, [], ◌∷◌, ◌++◌, map, length, get_or, take, Some, None, Option, refl, sym, ap, ◌∙◌, arith}
use Rattle.std.proofs.lemmas.List.{length-map, take_at}
use Rattle.std.specs.Option.{SomeIff}
use Rattle.model.specs.Semirings.{Algebra, dot}
use Rattle.semiring.proofs.Steps.{item_read}
use Rattle.docks.specs.Tables.{Entry}
use Rattle.docks.specs.Views.{entry_of}
use Rattle.docks.specs.declared.dock.Dock.{Dock}

module _ {P V : Type 0} (stored : V → P) (w : Entry → V) (ds : List Dock) where
  pub length_row : length (map stored (map w (map entry_of ds))) ≡ length ds
  length_row = length-map (map w (map entry_of ds)) stored ∙ length-map (map entry_of ds) w ∙ length-map ds entry_of

  -- the leg of a dock that was read, as it is stored
  pub leg_read : (i : ℕ) (d : Dock) (p : P) → i < length ds → d ≡ get_or ds i d → p ≡ stored (w (entry_of d)) → p ≡ get_or (map stored (map w (map entry_of ds))) i p
  leg_read i d p h e q =
      let x1 = item_read entry_of ds i d (entry_of d) h e in
      let x2 = item_read w (map entry_of ds) i (entry_of d) (w (entry_of d)) (simp length-map h) x1 in
      q ∙ item_read stored (map w (map entry_of ds)) i (w (entry_of d)) p (simp length-map h) x2

-- what is stored is read back
pub read_back : {P V : Type 0} (reads : P → V) (stored : V → P) → ((x : V) → reads (stored x) ≡ x) → (xs : List V) → map reads (map stored xs) ≡ xs
read_back reads stored again [] = refl
read_back reads stored again (x ∷ xs) = ap (λ y. y ∷ map reads (map stored xs)) (again x) ∙ ap (λ ys. x ∷ ys) (read_back reads stored again xs)

-- the front of a row that was filled, read back
pub front_read : {P V : Type 0} (reads : P → V) (stored : V → P) → ((x : V) → reads (stored x) ≡ x) → (w : Entry → V) (ds : List Dock) (rest s : List P)
    → s ≡ map stored (map w (map entry_of ds)) ++ rest → map reads (take (length ds) s) ≡ map w (map entry_of ds)
front_read reads stored again w ds rest s e =
    let z = map stored (map w (map entry_of ds)) in
    let n : length z ≡ length ds = omega (arith, length_row stored w ds) in
    ap (λ t. map reads (take (length ds) t)) e ∙ ap (map reads) (take_at z rest (length ds) n) ∙ read_back reads stored again (map w (map entry_of ds))

pub dot_at : {V : Type 0} (A : Algebra V) {v : V} {xs zs ys ws : List V} → v ≡ dot A xs ys → xs ≡ zs → ys ≡ ws → v ≡ dot A zs ws
dot_at A {zs = zs} {ys = ys} h p q = h ∙ ap (λ x. dot A x ys) p ∙ ap (dot A zs) q

pub unwrapped : {T : Type 0} (P : Type 0) {x : T} (r : Option T) (v : T) → SomeIff r P x → r ≡ Some v → v ≡ x
unwrapped P (Some y) v h e = let same : y ≡ v = cc in sym same ∙ h.1
unwrapped P None v h e = let z : ◌≡◌ {A = ℕ} 0 1 = cc in absurd (omega arith)
