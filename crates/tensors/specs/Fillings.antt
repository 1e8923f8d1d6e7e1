-- What the passes of a STORE leave: the lists that a level is built from, and values put at their positions.
use Rattle.std.specs.Prelude.{◌≡◌, ℕ, suc, ◌+◌, ◌<◌, cond, List, [], ◌∷◌, length, take, drop, Some, slice_index, slice_index_or, slice_set}
use Rattle.formats.specs.declared.entry.Entry.{Entry}
use Rattle.model.specs.Fibers.{Level, fiber, child}
use Rattle.model.specs.Formats.{LevelSize}
use Rattle.model.specs.Stores.{FormatRules, positions_from}
use Rattle.model.specs.Tensors.{Stacked, reached}
use Rattle.slots.specs.Layouts.{needed, levels_on, Kept}
use Rattle.plans.specs.Rows.{next_same}

abbrev pub pair_of : Entry → ℕ × ℕ
pair_of e = (e.owner, e.coordinate)

-- Of rows with an owner each: the owner and the coordinate at depth d of the last row of each front.
abbrev pub picked : ℕ → List ℕ → List (List ℕ) → List (ℕ × ℕ)
picked d [] css = []
picked d (o ∷ os) [] = []
picked d (o ∷ os) (cs ∷ css) = cond (next_same (suc d) cs css) (picked d os css) ((o, slice_index cs d) ∷ picked d os css)

-- values put at places, one after another
abbrev pub scattered : {X : Type 0} → List ℕ → List X → List X → List X
scattered [] vs xs = xs
scattered (o ∷ os) [] xs = xs
scattered (o ∷ os) (v ∷ vs) xs = scattered os vs (slice_set xs o v)

-- Owners of rows at depth d: rows have one owner exactly if they begin with the same d coordinates.
pub record Owners (d f : ℕ) (os : List ℕ) (css : List (List ℕ)) : Type 0 where
  pub long : length os ≡ length css
  pub few : (k : ℕ) → k < length css → slice_index os k < f
  pub one : (j k : ℕ) → j < length css → k < length css → slice_index os j ≡ slice_index os k → take d (slice_index_or css j []) ≡ take d (slice_index_or css k [])
  pub all : (j k : ℕ) → j < length css → k < length css → take d (slice_index_or css j []) ≡ take d (slice_index_or css k []) → slice_index os j ≡ slice_index os k

-- One more level, written from `start` on, and the owners of the rows one deeper: each row's owner is the child of the one before at the
-- row's coordinate. No other word changes.
pub record Added (want : ℕ) (kept : List ℕ → Type 0) (meaning : List ℕ → Level) (d start : ℕ) (css : List (List ℕ)) (os ws deeper after : List ℕ) : Type 0 where
  pub front : take start after ≡ take start ws
  pub back : drop (start + want) after ≡ drop (start + want) ws
  pub sound : kept (take want (drop start after))
  pub led : (k : ℕ) → k < length css
      → child (fiber (meaning (take want (drop start after))) (slice_index os k)) (slice_index (slice_index_or css k []) d) ≡ Some (slice_index deeper k)

-- All levels, one behind the other: lawful levels that lead each row to its position. What lies behind them is as it was.
pub record Raised (rules : FormatRules) (meaning : ℕ → LevelSize → List ℕ → Level) (kept : ℕ → LevelSize → List ℕ → Type 0)
    (ls : List (ℕ × LevelSize)) (es : List ℕ) (css : List (List ℕ)) (ws positions after : List ℕ) : Type 0 where
  pub stacked : Stacked es 1 (levels_on rules meaning ls after) (positions_from 1 rules ls)
  pub sound : Kept rules kept ls after
  pub led : (k : ℕ) → k < length css → reached (levels_on rules meaning ls after) (Some 0) (slice_index_or css k []) ≡ Some (slice_index positions k)
  pub rest : drop (needed rules ls) after ≡ drop (needed rules ls) ws
