-- What the areas of a rack hold of a loaded graph. Assumes nothing.
use Rattle.std.specs.Prelude.{◌≡◌, ℕ, ◌≤◌, List, map, length, take}
use Rattle.model.specs.Semirings.{Algebra}
use Rattle.model.specs.Commands.{filled}
use Rattle.model.specs.Running.{stream_words, stream_values}
use Rattle.model.specs.Books.{Loaded, state_of}

-- An area of which the first `used` places are in use.
pub record Area (X : Type 0) : Type 0 where
  pub places : List X
  pub used : ℕ

abbrev pub in_use : {X : Type 0} → Area X → List X
in_use a = take a.used a.places

-- The stream words are the tapes of the commands carried out, one after another, the stream values their values, and the result keys ascend, each with
-- its value. A key takes three places; those that it does not use are 0.
pub record Shows {V : Type 0} (K : Algebra V) (g : Loaded V) (words : Area ℕ) (values : Area V) (keys : Area (List ℕ)) (sums : Area V) : Type 0 where
  pub tapes : in_use words ≡ stream_words (state_of K g)
  pub taken : in_use values ≡ stream_values (state_of K g)
  pub listed : in_use keys ≡ map (λ e. filled 3 0 e.0) (state_of K g).table
  pub summed : in_use sums ≡ map (λ e. e.1) (state_of K g).table
  pub words_fit : words.used ≤ length words.places
  pub values_fit : values.used ≤ length values.places
  pub keys_fit : keys.used ≤ length keys.places
  pub sums_fit : sums.used ≤ length sums.places
