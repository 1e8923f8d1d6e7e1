-- The laws of compressed levels.
use Rattle.std.specs.Prelude.{◌≡◌, ℕ, zero, suc, ◌+◌, ◌-◌, ◌<◌, ◌≤◌, List}
use Rattle.std.proofs.Common.{ap, ⊎_elim, arith, add-zero}
use Rattle.std.proofs.lemmas.Bool.{cases_lt}
use Rattle.model.specs.Fibers.{Lawful}
use Rattle.model.specs.Formats.{LevelSize, compressed_level, position, coordinate_word}
use Rattle.formats.specs.Lists.{CompressedWords}
use Rattle.formats.specs.Ascents.{passes}
use Rattle.formats.specs.Rows.{rows_lawful}

module _ (s : LevelSize) (ws : List ℕ) (c : CompressedWords s ws) where
  -- positions rise over any distance
  position_rises : (p d : ℕ) → p + d ≤ s.fibers → position ws p ≤ position ws (p + d)
  position_rises p zero h = rw add-zero (omega arith)
  position_rises p (suc d) h =
      let e : p + suc d ≡ p + d + 1 = omega arith in rw e (omega (arith, position_rises p d (omega arith), c.rises (p + d) (omega arith)))

  position_before : (p q : ℕ) → p ≤ q → q ≤ s.fibers → position ws p ≤ position ws q
  position_before p q h i = let e : p + (q - p) ≡ q = omega arith in rw e at (position_rises p (q - p) (omega arith))

  -- the children of an earlier fiber come before those of a later one
  apart : (p k q : ℕ) → p < q → q ≤ s.fibers → k < position ws (p + 1) - position ws p → position ws p + k < position ws q
  apart p k q h i lt = omega (arith, position_before (p + 1) q (omega arith) i)

  ends : (p : ℕ) → p < s.fibers → position ws (p + 1) ≤ s.entries
  ends p h = omega (arith, position_before (p + 1) s.fibers (omega arith) (omega arith), c.last)

  pub compressed_lawful : Lawful s.extent s.fibers s.entries (compressed_level s ws)
  compressed_lawful =
      rows_lawful s.extent s.fibers s.entries (λ p. position ws (p + 1) - position ws p) (λ p k. (coordinate_word s ws (position ws p + k), position ws p + k)) record {
        ascends = λ p j k h l i. c.ascends p (position ws p + j) (position ws p + k) h (omega arith) (omega arith) (omega arith);
        within = λ p k h i. c.within (position ws p + k) (omega (arith, ends p h));
        below = λ p k h i. omega (arith, ends p h);
        used = λ j h. let u = passes (position ws) c.first j s.fibers (omega (arith, c.last)) in
            (u.0, j - position ws u.0, u.1, omega (arith, u.2, u.3), omega (arith, u.2));
        once = λ p k q m hp hk hq hm e.
            ⊎_elim
            (λ lt. absurd (omega (arith, apart p k q lt (omega arith) hk)))
            (λ le. ⊎_elim (λ lt. absurd (omega (arith, apart q m p lt (omega arith) hm))) (λ ge. let same : p ≡ q = omega arith in (same, (let a : position ws p ≡ position ws q = ap (position ws) same in omega arith))) (cases_lt q p))
            (cases_lt p q);
      }
