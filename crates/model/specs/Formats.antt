-- Formats: how words stand for the fibers of a level. Dense and compressed. Assumes nothing.
use Rattle.std.specs.Prelude.{◌≡◌, ℕ, ◌+◌, ◌-◌, ◌*◌, ◌<◌, List, map, length, slice_index}
use Rattle.std.specs.List.{range_with_len}
use Rattle.model.specs.Fibers.{Level, fiber, coord}

-- The numbers of a level that are known before it is built: its extent, its fibers, and how many coordinates their lists
-- have together.
pub record LevelSize : Type 0 where
  pub extent : ℕ
  pub fibers : ℕ
  pub entries : ℕ

-- fibers from their lengths and items
abbrev pub rows : ℕ → (ℕ → ℕ) → (ℕ → ℕ → ℕ × ℕ) → Level
rows f len item = map (λ p. map (item p) (range_with_len 0 (len p))) (range_with_len 0 f)

-- Dense, format 0: no words. Every coordinate c is held, and its child is p * extent + c.
abbrev pub dense_need : LevelSize → ℕ
dense_need s = 0

abbrev pub dense_children : LevelSize → ℕ
dense_children s = s.fibers * s.extent

abbrev pub dense_level : LevelSize → Level
dense_level s = rows s.fibers (λ _. s.extent) (λ p c. (c, p * s.extent + c))

-- Compressed, format 1: a position word for each fiber and one more, then a word for each coordinate. Fiber p holds the
-- coordinate words from position p up to position p + 1, and a child is the index among the coordinate words.
abbrev pub compressed_need : LevelSize → ℕ
compressed_need s = s.fibers + 1 + s.entries

abbrev pub compressed_children : LevelSize → ℕ
compressed_children s = s.entries

abbrev pub position : List ℕ → ℕ → ℕ
position ws p = slice_index ws p

abbrev pub coordinate_word : LevelSize → List ℕ → ℕ → ℕ
coordinate_word s ws j = slice_index ws (s.fibers + 1 + j)

abbrev pub compressed_level : LevelSize → List ℕ → Level
compressed_level s ws =
    rows s.fibers (λ p. position ws (p + 1) - position ws p)
    (λ p k. (coordinate_word s ws (position ws p + k), position ws p + k))

-- The lists that a level is built from, coordinate by coordinate: the fiber that each belongs to, and the coordinate. The
-- fibers may come in any order; within a fiber the coordinates ascend.
pub record Listed (s : LevelSize) (owners coordinates : List ℕ) : Type 0 where
  pub owners_long : length owners ≡ s.entries
  pub coordinates_long : length coordinates ≡ s.entries
  pub owned : (k : ℕ) → k < s.entries → slice_index owners k < s.fibers
  pub within : (k : ℕ) → k < s.entries → slice_index coordinates k < s.extent
  pub ascends : (j k : ℕ) → j < k → k < s.entries → slice_index owners j ≡ slice_index owners k → slice_index coordinates j < slice_index coordinates k

-- Each coordinate of the lists is held in its fiber. Others may be held too: padding.
abbrev pub Includes : List ℕ → List ℕ → Level → Type 0
Includes owners coordinates l = (k : ℕ) → k < length owners
    → (j : ℕ) × (j < length (fiber l (slice_index owners k))) × (coord l (slice_index owners k) j ≡ slice_index coordinates k)
