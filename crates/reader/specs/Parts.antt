-- What the readers of sums, products and factors say. Assumes nothing.
use Rattle.std.specs.Prelude.{◌≡◌, ℕ, ◌+◌, ◌<◌, ◌≤◌, List, length, ◌≢◌, slice_index}
use Rattle.reader.specs.declared.arena.Arena.{Arena}
use Rattle.reader.specs.declared.parsing.Part.{Part}
use Rattle.model.specs.Grammar.{Tree, text, height, Grammatical}
use Rattle.reader.specs.Reader.{Spans}
use Rattle.reader.specs.Order.{Ordered}
use Rattle.reader.specs.Nodes.{node, Holds}

-- from `at` to e, nodes were added behind the old ones, at most as many as bytes were read
pub record Grown (old : Arena) (at : ℕ) (new : Arena) (e : ℕ) : Type 0 where
  pub few : new.len + at ≤ old.len + e
  pub more : old.len ≤ new.len
  pub same : (i : ℕ) → i < old.len → node new.nodes i ≡ node old.nodes i
  pub first : Ordered old → Ordered new

-- neither of the operators of height m or below stands at e
pub record Stops (m : ℕ) (s : List ℕ) (e : ℕ) : Type 0 where
  pub times : 1 ≤ m → e < length s → slice_index s e ≢ 42
  pub plus : 2 ≤ m → e < length s → slice_index s e ≢ 43

-- a part of height k at most was read from `at`, and no operator of height m or below goes on with it
pub record Read (k m : ℕ) (s : List ℕ) (at : ℕ) (new : Arena) (p : Part) : Type 0 where
  pub tree : Tree
  pub good : Grammatical tree
  pub low : height tree ≤ k
  pub spans : Spans s at p.end (text tree)
  pub forth : at < p.end
  pub stops : Stops m s p.end
  pub holds : Holds tree at new.nodes p.root
  pub below : p.root < new.len

pub record Got (k m : ℕ) (s : List ℕ) (at : ℕ) (old new : Arena) (p : Part) : Type 0 where
  pub read : Read k m s at new p
  pub grown : Grown old at new p.end
