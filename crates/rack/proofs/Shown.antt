-- A rack that mirrors a book shows what its loaded graph has made. Assumes nothing.
use Rattle.std.proofs.Common.{◌≡◌, ℕ, zero, suc, ◌≤◌, List, [], ◌∷◌, map, length, take, IfSome, Some, None, Option, sym, refl, ap, ◌∙◌, le_of_suc-le-suc, not-suc-le-zero, arith}
use Rattle.std.proofs.lemmas.List.{length-map, length-take, take-map}
use Rattle.model.specs.Semirings.{Algebra, zipped}
use Rattle.model.specs.Fibers.{Level}
use Rattle.model.specs.Formats.{LevelSize}
use Rattle.model.specs.Commands.{filled}
use Rattle.model.specs.Stores.{FormatRules}
use Rattle.model.specs.Running.{Table}
use Rattle.model.specs.Books.{Slot, Loaded}
use Rattle.results.specs.Keys.{coordinates}
use Rattle.results.specs.Padding.{padded}
use Rattle.rack_state.specs.declared.state.Loaded as code
use Rattle.rack_state.specs.Snapshots.{Snapshot}
use Rattle.rack_state.specs.Mirrors.{Carries, GraphMirrors}
use Rattle.rack.specs.Courses.{ShowsGraph}

module _ {X Y A B : Type 0} (f : X → A) (g : Y → B) where
  -- the two sides of a front of pairs
  firsts : (n : ℕ) (xs : List X) (ys : List Y) → n ≤ length xs → n ≤ length ys → map (λ (e : A × B). e.0) (take n (zipped (λ x y. (f x, g y)) xs ys)) ≡ take n (map f xs)
  firsts zero xs ys h k = refl
  firsts (suc n) [] ys h k = refl
  firsts (suc n) (x ∷ xs) [] h k = absurd (not-suc-le-zero k)
  firsts (suc n) (x ∷ xs) (y ∷ ys) h k = ap (λ l. f x ∷ l) (firsts n xs ys (le_of_suc-le-suc h) (le_of_suc-le-suc k))

  seconds : (n : ℕ) (xs : List X) (ys : List Y) → n ≤ length xs → n ≤ length ys → map (λ (e : A × B). e.1) (take n (zipped (λ x y. (f x, g y)) xs ys)) ≡ take n (map g ys)
  seconds zero xs ys h k = refl
  seconds (suc n) [] ys h k = absurd (not-suc-le-zero h)
  seconds (suc n) (x ∷ xs) [] h k = refl
  seconds (suc n) (x ∷ xs) (y ∷ ys) h k = ap (λ l. g y ∷ l) (seconds n xs ys (le_of_suc-le-suc h) (le_of_suc-le-suc k))

module _ {V : Type 0} where
  padded_keys : (t : Table V) → map (λ e. e.0) (padded 3 t) ≡ map (λ e. filled 3 0 e.0) t
  padded_keys [] = refl
  padded_keys (e ∷ t) = ap (λ l. filled 3 0 e.0 ∷ l) (padded_keys t)

  padded_values : (t : Table V) → map (λ e. e.1) (padded 3 t) ≡ map (λ e. e.1) t
  padded_values [] = refl
  padded_values (e ∷ t) = ap (λ l. e.1 ∷ l) (padded_values t)

module _ {P V : Type 0} (K : Algebra V) (reads : P → V) (rules : FormatRules) (meaning : ℕ → LevelSize → List ℕ → Level) (m : Snapshot P) where
  shows_carried : (slots : ℕ → Option (Slot V)) (g : Loaded V) (p : code.Loaded) → Carries K reads rules meaning m slots g p → ShowsGraph K reads rules meaning m g
  shows_carried slots g p c =
      let t = c.table in
      let taken : take m.tapes.taken (map reads m.values) ≡ map reads (take m.tapes.taken m.values) = take-map reads m.tapes.taken m.values in
      let words_long : length (take m.tapes.used m.words) ≡ m.tapes.used = ap length c.streams.tapes ∙ sym c.streams.used in
      let values_long : length (take m.tapes.taken (map reads m.values)) ≡ m.tapes.taken = ap length (taken ∙ c.streams.values) ∙ sym c.streams.taken in
      record {
        tapes = c.streams.tapes;
        taken = taken ∙ c.streams.values;
        listed = sym (firsts coordinates reads m.count m.keys m.sums t.keys_fit t.sums_fit) ∙ ap (map (λ e. e.0)) t.table ∙ padded_keys _;
        summed = sym (seconds coordinates reads m.count m.keys m.sums t.keys_fit t.sums_fit) ∙ ap (map (λ e. e.1)) t.table ∙ padded_values _;
        words_fit = omega (arith, words_long, length-take m.tapes.used m.words);
        values_fit = omega (arith, values_long, length-take m.tapes.taken (map reads m.values));
        keys_fit = omega (arith, t.keys_fit, length-map m.keys coordinates);
        sums_fit = omega (arith, t.sums_fit, length-map m.sums reads);
      }

  pub shown : (slots : ℕ → Option (Slot V)) (o : Option (Loaded V)) (p : Option code.Loaded) → GraphMirrors K reads rules meaning m slots o p
      → IfSome o (ShowsGraph K reads rules meaning m)
  shown slots None p h = tt
  shown slots (Some g) None h = absurd h
  shown slots (Some g) (Some p) h = shows_carried slots g p h
