-- Worked pieces: the definitions, tried on small cases. Assumes nothing.
use Rattle.std.specs.Prelude.{◌≡◌, ℕ, zero, suc, true, List, [], ◌∷◌, map, Some, None, codes, Option}
use Rattle.model.specs.Semirings.{Algebra}
use Rattle.model.specs.Formats.{LevelSize, dense_level, compressed_level}
use Rattle.model.specs.Fibers.{Level}
use Rattle.model.specs.Tokens.{word}
use Rattle.model.specs.Trees.{Tree, tape, number_token}
use Rattle.model.specs.Streams.{values, values_of, words_of}
use Rattle.model.specs.Blocks.{Key, summed}
use Rattle.model.specs.Running.{Table, results, space}
use Rattle.model.specs.Grammar.{access, group, times as by, plus, Syntax, spell}
use Rattle.model.specs.Reading.{line_of}
use Rattle.model.specs.Lowering.{bytes_of_line}
use Rattle.model.specs.Conditions.{judged}
use Rattle.model.specs.Sums.{alike}
use Rattle.model.specs.Meaning.{extents_seen, line_listing}
use Rattle.model.specs.Calls.{Answer, stepped, refused, full, returned}
use Rattle.model.specs.Stores.{Sizes}
use Rattle.model.specs.Books.{Slot, Loaded, tensors_of, state_of, step_answer}
use Rattle.semiring.specs.declared.count.Count.{Count}
use Rattle.semiring.specs.Kinds.{count, counts, time, times}

-- Depth 2: [] is S1 D; [[]] is S0 S1 D; [[1],[0,2]] is 1 S0 0 2 S0 S1 D.
abbrev pub depth_two : Tree ℕ 2 → List ℕ
depth_two t = map word (tape number_token 2 t)

abbrev pub Tapes : Type 0
Tapes =
    (depth_two [] ≡ 0x80000001 ∷ 0x800000FF ∷ []) × (depth_two ([] ∷ []) ≡ 0x80000000 ∷ 0x80000001 ∷ 0x800000FF ∷ [])
    × (depth_two ((1 ∷ []) ∷ (0 ∷ 2 ∷ []) ∷ []) ≡ 1 ∷ 0x80000000 ∷ 0 ∷ 2 ∷ 0x80000000 ∷ 0x80000001 ∷ 0x800000FF ∷ [])

-- SUM of S0 S1 D is a zero, S0 D, and the zero is the next stream value; of S1 D it is S0 D. For every kind, and however many values are taken before.
abbrev pub EmptySums : Type 0 → Type 0
EmptySums V =
    (K : Algebra V) (used : ℕ)
    → (words_of used (summed K (values 2 ([] ∷ []))) ≡ used ∷ 0x80000000 ∷ 0x800000FF ∷ []) × (values_of (summed K (values 2 ([] ∷ []))) ≡ K.zero ∷ [])
    × (words_of used (summed K (values 2 [])) ≡ 0x80000000 ∷ 0x800000FF ∷ []) × (values_of (summed K (values 2 [])) ≡ [])

-- Times: the longest time that is one, and one more, is none.
abbrev pub NoTime : Type 0
NoTime = times.product (time 4294967294) (time 1) ≡ times.zero

-- R()=A(i)*B(i);i over counts. A is 2 at 0 and 5 at 3, B is 1 at 1 and 7 at 3, extent 4, compressed.
abbrev pub dot_line : Syntax
dot_line = record { left = []; body = by (access 65 (105 ∷ [])) (access 66 (105 ∷ [])); order = 105 ∷ [] }

abbrev pub vector : Level → List (ℕ × ℕ) → Slot Count
vector l es = record { tensor = record { extents = 4 ∷ []; entries = map (λ e. (e.0 ∷ [], count e.1)) es }; levels = l ∷ [] }

abbrev pub four : LevelSize
four = record { extent = 4; fibers = 1; entries = 2 }

abbrev pub compressed_slots : ℕ → Option (Slot Count)
compressed_slots zero = Some (vector (compressed_level four (0 ∷ 2 ∷ 0 ∷ 3 ∷ [])) ((0, 2) ∷ (3, 5) ∷ []))
compressed_slots (suc zero) = Some (vector (compressed_level four (0 ∷ 2 ∷ 1 ∷ 3 ∷ [])) ((1, 1) ∷ (3, 7) ∷ []))
compressed_slots (suc (suc n)) = None

-- the same with A dense, so that its level holds padding
abbrev pub padded_slots : ℕ → Option (Slot Count)
padded_slots zero = Some (vector (dense_level four) ((0, 2) ∷ (3, 5) ∷ []))
padded_slots (suc n) = compressed_slots (suc n)

abbrev pub after : (ℕ → Option (Slot Count)) → ℕ → Loaded Count
after slots k = record { line = dot_line; slots = slots; count = k }

abbrev pub shown : Table Count → List (Key × ℕ)
shown t = map (λ e. (e.0, e.1.value)) t

abbrev pub Accepted : Type 0
Accepted = (spell dot_line ≡ codes "R()=A(i)*B(i);i") × (judged (extents_seen (tensors_of compressed_slots)) dot_line ≡ None)

abbrev pub Graph : Type 0
Graph =
    bytes_of_line (line_of dot_line) ≡
    0x01 ∷ 0x00 ∷ 0x01 ∷ 0x01 ∷ 0x02 ∷ 0x00 ∷ 0x00 ∷ 0x00 ∷ 0x02 ∷ 0x03 ∷ 0x02 ∷ 0x01 ∷ 0x00 ∷ 0x01 ∷ 0x04 ∷ 0x05
    ∷ 0x03 ∷ 0x02 ∷ 0x04 ∷ 0x06 ∷ 0x05 ∷ 0x02 ∷ 0x03 ∷ 0x06 ∷ 0x07 ∷ 0x05 ∷ 0x04 ∷ 0x05 ∷ 0x06 ∷ 0x08
    ∷ 0x07 ∷ 0x00 ∷ 0x07 ∷ 0x09 ∷ 0x07 ∷ 0x01 ∷ 0x08 ∷ 0x0A ∷ 0x08 ∷ 0x09 ∷ 0x0A ∷ 0x0B ∷ 0x0A ∷ 0x0B ∷ 0x0C
    ∷ 0x0B ∷ 0x00 ∷ 0x0C ∷ 0xFF ∷ 0xFF ∷ 0xFF ∷ 0xFF ∷ 0x00 ∷ 0x00 ∷ 0x00 ∷ 0x00 ∷ []

-- It reads 35, also with padding, and that is what it lists.
abbrev pub Reads35 : Type 0
Reads35 =
    (shown (results counts (state_of counts (after compressed_slots 12)).table) ≡ ([], 35) ∷ [])
    × (shown (results counts (state_of counts (after padded_slots 12)).table) ≡ ([], 35) ∷ [])
    × (shown (line_listing counts (tensors_of compressed_slots) dot_line) ≡ ([], 35) ∷ [])

-- It needs 40 words and 4 values. With 40 stream words it drains, with 39 the command 10 is refused with 15.
abbrev pub rack_of : ℕ → Sizes
rack_of w = record { positions = 4; level_words = 4; stream_words = w; stream_values = 4; places = 1 }

abbrev pub steps : ℕ → ℕ → List (Answer Count)
steps w zero = []
steps w (suc k) = step_answer counts (rack_of w) (Some (after compressed_slots k)) ∷ steps w k

abbrev pub Fits40 : Type 0
Fits40 =
    (space (state_of counts (after compressed_slots 12)) ≡ record { words = 40; values = 4; keys = 1 })
    × (steps 40 12 ≡ stepped 0 ∷ stepped 1 ∷ stepped 2 ∷ stepped 3 ∷ stepped 4 ∷ stepped 5 ∷ stepped 6 ∷ stepped 7 ∷ stepped 8 ∷ stepped 9 ∷ stepped 10 ∷ stepped 11 ∷ [])
    × (steps 39 11 ≡ refused (full 10) ∷ stepped 2 ∷ stepped 3 ∷ stepped 4 ∷ stepped 5 ∷ stepped 6 ∷ stepped 7 ∷ stepped 8 ∷ stepped 9 ∷ stepped 10 ∷ stepped 11 ∷ [])
    × (returned (full 10) ≡ (15, 10))

-- R(i)=A(i)*(B(i)+C(i));i and R(i)=A(i)*C(i)+B(i)*A(i);i multiply out alike.
abbrev pub bracketed : Syntax
bracketed = record { left = 105 ∷ []; body = by (access 65 (105 ∷ [])) (group (plus (access 66 (105 ∷ [])) (access 67 (105 ∷ [])))); order = 105 ∷ [] }

abbrev pub multiplied : Syntax
multiplied =
    record {
      left = 105 ∷ [];
      body = plus (by (access 65 (105 ∷ [])) (access 67 (105 ∷ []))) (by (access 66 (105 ∷ [])) (access 65 (105 ∷ [])));
      order = 105 ∷ [];
    }

abbrev pub MultiplyAlike : Type 0
MultiplyAlike =
    (spell bracketed ≡ codes "R(i)=A(i)*(B(i)+C(i));i") × (spell multiplied ≡ codes "R(i)=A(i)*C(i)+B(i)*A(i);i")
    × (alike (line_of bracketed) (line_of multiplied) ≡ true)
