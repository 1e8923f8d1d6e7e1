-- What a command takes of the stream words, the stream values and the result places, from the streams that it reads. Assumes nothing.
use Rattle.std.specs.Prelude.{◌≡◌, ℕ, ◌+◌, ◌*◌, ◌≤◌, List, map, length}
use Rattle.model.specs.Semirings.{Algebra}
use Rattle.model.specs.Tensors.{Storage}
use Rattle.model.specs.Streams.{Stream, values_of, words_of, all_words, all_values}
use Rattle.model.specs.Commands.{Command, ROOT, SCAN, MEET, JOIN, ALIGN, REPEAT, LOAD, MUL, ADD, SUM, WRITE}
use Rattle.model.specs.Blocks.{scanned_coordinates, leaf_entries}
use Rattle.model.specs.Running.{Table, nth_stream, nth_level, outputs, entered}
use Rattle.model.specs.Shapes.{Fits}

-- how many words the tape of a stream has: the same wherever its values lie
abbrev pub tape_length : {V : Type 0} → Stream V → ℕ
tape_length s = length (words_of 0 s)

module _ {V : Type 0} (K : Algebra V) (T : ℕ → Storage V) where
  -- the words and values of a command's outputs, and the keys that there are after it
  abbrev pub words_taken : ℕ → Command → List (Stream V) → ℕ
  words_taken used c ss = length (all_words used (outputs K T c ss))

  abbrev pub values_taken : Command → List (Stream V) → ℕ
  values_taken c ss = length (all_values (outputs K T c ss))

  -- ALIGN and REPEAT take as many words as z has, LOAD as the references, MUL and ADD as their first stream, and these one value for each value of it. SUM takes away a
  -- word for each value that it adds up. The two tapes of a SCAN are equally long. A MEET is no longer than its first stream, a JOIN no longer than both. A WRITE
  -- adds at most a key for each leaf.
  abbrev pub Cost : ℕ → Command → List (Stream V) → Table V → Type 0
  Cost used (ROOT out) ss t = (words_taken used (ROOT out) ss ≡ 2) × (values_taken (ROOT out) ss ≡ 0)
  Cost used (SCAN s l r c k) ss t =
      (words_taken used (SCAN s l r c k) ss ≡ 2 * tape_length (scanned_coordinates {V = V} (nth_level T s l) (nth_stream ss r))) × (values_taken (SCAN s l r c k) ss ≡ 0)
  Cost used (MEET a b out) ss t = (words_taken used (MEET a b out) ss ≤ tape_length (nth_stream ss a)) × (values_taken (MEET a b out) ss ≡ 0)
  Cost used (JOIN a b out) ss t =
      (words_taken used (JOIN a b out) ss ≤ tape_length (nth_stream ss a) + tape_length (nth_stream ss b)) × (values_taken (JOIN a b out) ss ≡ 0)
  Cost used (ALIGN c r z out) ss t = (words_taken used (ALIGN c r z out) ss ≡ tape_length (nth_stream ss z)) × (values_taken (ALIGN c r z out) ss ≡ 0)
  Cost used (REPEAT r z out) ss t = (words_taken used (REPEAT r z out) ss ≡ tape_length (nth_stream ss z)) × (values_taken (REPEAT r z out) ss ≡ 0)
  Cost used (LOAD s r out) ss t = words_taken used (LOAD s r out) ss ≡ tape_length (nth_stream ss r)
  Cost used (MUL a b out) ss t =
      (words_taken used (MUL a b out) ss ≡ tape_length (nth_stream ss a)) × (values_taken (MUL a b out) ss ≡ length (values_of (nth_stream ss a)))
  Cost used (ADD a b out) ss t =
      (words_taken used (ADD a b out) ss ≡ tape_length (nth_stream ss a)) × (values_taken (ADD a b out) ss ≡ length (values_of (nth_stream ss a)))
  Cost used (SUM a out) ss t = words_taken used (SUM a out) ss + length (values_of (nth_stream ss a)) ≡ tape_length (nth_stream ss a)
  Cost used (WRITE d v zs ks) ss t =
      (words_taken used (WRITE d v zs ks) ss ≡ 0) × (values_taken (WRITE d v zs ks) ss ≡ 0)
      × (length (entered K T (WRITE d v zs ks) ss t) ≤ length t + length (leaf_entries K.zero (nth_stream ss v) (map (nth_stream ss) zs) ks))

-- For every command that finds the streams that it asks for, wherever its values lie.
abbrev pub Costs : Type 0 → Type 0
Costs V = (K : Algebra V) (T : ℕ → Storage V) (c : Command) (ss : List (Stream V)) → Fits c ss → (used : ℕ) (t : Table V) → Cost K T used c ss t
