-- The coordinates of entries as rows: how they stand one after another, and what accepted ones keep.
use Rattle.std.specs.Prelude.{◌≡◌, ℕ, zero, suc, ◌*◌, Bool, true, false, List, [], ◌∷◌, take, drop, Some, None, Option}
use Rattle.std.specs.List.{AllByRecursion}
use Rattle.model.specs.Tensors.{same}
use Rattle.model.specs.Running.{before}
use Rattle.model.specs.Stores.{outside}
use Rattle.plans.specs.declared.rows.Rows.{Rows}

-- n rows, each of r coordinates
abbrev pub rows_of : ℕ → ℕ → List ℕ → List (List ℕ)
rows_of r zero cs = []
rows_of r (suc n) cs = take r cs ∷ rows_of r n (drop r cs)

-- each row is before all that come after it
abbrev pub Rising : List (List ℕ) → Type 0
Rising [] = Unit {0}
Rising (cs ∷ css) = AllByRecursion (λ ds. before cs ds ≡ true) css × Rising css

-- Rows that ascend, each within the extents.
pub record Ordered (es : List ℕ) (css : List (List ℕ)) : Type 0 where
  pub within : AllByRecursion (λ cs. outside es cs ≡ false) css
  pub rising : Rising css

-- row k of coordinates that stand row after row, and the one before it
abbrev pub nth_row : ℕ → List ℕ → ℕ → List ℕ
nth_row r cs k = take r (drop (r * k) cs)

abbrev pub prior_row : ℕ → List ℕ → ℕ → Option (List ℕ)
prior_row r cs zero = None
prior_row r cs (suc k) = Some (nth_row r cs k)

-- the row after this one begins with the same d coordinates
abbrev pub next_same : ℕ → List ℕ → List (List ℕ) → Bool
next_same d cs [] = false
next_same d cs (ds ∷ css) = same (take d cs) (take d ds)

-- the rows of a request's entries, and row k of them
abbrev pub rows_in : Rows → List (List ℕ)
rows_in r = rows_of r.rank r.count r.coordinates.now

abbrev pub row_in : Rows → ℕ → List ℕ
row_in r k = nth_row r.rank r.coordinates.now k
