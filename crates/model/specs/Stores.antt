-- What is asked of a STORE, and the sizes of the levels that it builds. Assumes nothing.
use Rattle.std.specs.Prelude.{ℕ, suc, ◌*◌, Bool, true, false, cond, not, ◌||◌, ltb, List, [], ◌∷◌, map, length, take, drop, Some, None, sum, Option, ◌==◌, nat_le, nat_lt}
use Rattle.model.specs.Formats.{LevelSize}
use Rattle.model.specs.Tensors.{Tensor, same}
use Rattle.model.specs.Running.{before}
use Rattle.model.specs.Conditions.{Check, first_fault}
use Rattle.model.specs.Calls.{Request, Fault, no_slot, shape, entry, room}

-- The sizes of a rack: value positions and level words of a slot, stream words, stream values, result places.
pub record Sizes : Type 0 where
  pub positions : ℕ
  pub level_words : ℕ
  pub stream_words : ℕ
  pub stream_values : ℕ
  pub places : ℕ

-- how long the areas are that a rack is made of: the values and level words of the slots, stream words, stream values, result keys and values
pub record AreaLengths : Type 0 where
  pub slot_values : ℕ
  pub level_words : ℕ
  pub stream_words : ℕ
  pub stream_values : ℕ
  pub keys : ℕ
  pub key_values : ℕ

abbrev pub out_of_range : ℕ → ℕ → Bool
out_of_range most n = n == 0 || nat_lt most n

-- 17: a size out of range, or an area too short. There are eight slots.
abbrev pub wrong_sizes : Sizes → AreaLengths → Bool
wrong_sizes z a =
    out_of_range 4096 z.positions || (out_of_range 8192 z.level_words || (out_of_range 1048576 z.stream_words
    || (out_of_range 1048576 z.stream_values || (out_of_range 4096 z.places
    || (nat_lt a.slot_values (8 * z.positions) || (nat_lt a.level_words (8 * z.level_words) || (nat_lt a.stream_words z.stream_words
    || (nat_lt a.stream_values z.stream_values || (nat_lt a.keys z.places || nat_lt a.key_values z.places)))))))))

-- What follows of a level, by its format number, from its size: the words it needs, and its children.
pub record FormatRules : Type 0 where
  pub need : ℕ → LevelSize → ℕ
  pub children : ℕ → LevelSize → ℕ

abbrev pub some_pass : {A : Type 0} → (A → Bool) → List A → Bool
some_pass p [] = false
some_pass p (x ∷ xs) = p x || some_pass p xs

-- the entries: each value with its coordinates
abbrev pub entries_of : {V : Type 0} → ℕ → List ℕ → List V → List (List ℕ × V)
entries_of rank cs [] = []
entries_of rank cs (v ∷ vs) = (take rank cs, v) ∷ entries_of rank (drop rank cs) vs

abbrev pub tensor_of : {V : Type 0} → Request V → Tensor V
tensor_of r = record { extents = r.extents; entries = entries_of r.rank r.coordinates r.values }

-- 3: rank above 3; extents or formats not as many as the rank; extent 0 or above 4,096; format above 1; coordinates not rank × values.
abbrev pub bad_shape : {V : Type 0} → Request V → Bool
bad_shape r =
    nat_lt 3 r.rank || (not (length r.extents == r.rank) || (not (length r.formats == r.rank)
    || (some_pass (λ e. (e == 0) || nat_lt 4096 e) r.extents || (some_pass (λ f. ltb 1 f) r.formats
    || not (length r.coordinates == r.rank * length r.values)))))

-- 4: the first entry outside an extent or not after the one before.
abbrev pub outside : List ℕ → List ℕ → Bool
outside [] [] = false
outside [] (c ∷ cs) = true
outside (e ∷ es) [] = true
outside (e ∷ es) (c ∷ cs) = nat_le e c || outside es cs

abbrev pub after : Option (List ℕ) → List ℕ → Bool
after None cs = true
after (Some prior) cs = before prior cs

abbrev pub entry_checks : List ℕ → ℕ → Option (List ℕ) → List (List ℕ) → List Check
entry_checks es k prior [] = []
entry_checks es k prior (cs ∷ rest) = (k, outside es cs || not (after prior cs)) ∷ entry_checks es (suc k) (Some cs) rest

abbrev pub coordinates_of : {V : Type 0} → Tensor V → List (List ℕ)
coordinates_of t = map (λ e. e.0) t.entries

abbrev pub bad_entry : {V : Type 0} → Tensor V → Option ℕ
bad_entry t = first_fault (entry_checks t.extents 0 None (coordinates_of t))

-- the first n coordinates of the entries, each list of them once
abbrev pub fronts : ℕ → List (List ℕ) → List (List ℕ)
fronts n [] = []
fronts n (cs ∷ rest) = cond (some_pass (λ ds. same (take n cs) (take n ds)) rest) (fronts n rest) (take n cs ∷ fronts n rest)

-- The levels of a tensor with their formats, from the depth n and f fibers on. A level's lists have one coordinate for each different front, and its
-- children are the fibers of the next.
abbrev pub level_sizes : FormatRules → List (List ℕ) → ℕ → ℕ → List ℕ → List ℕ → List (ℕ × LevelSize)
level_sizes rules css n f [] fs = []
level_sizes rules css n f (e ∷ es) [] = []
level_sizes rules css n f (e ∷ es) (k ∷ fs) =
    let s : LevelSize = record { extent = e; fibers = f; entries = length (fronts (suc n) css) } in
    (k, s) ∷ level_sizes rules css (suc n) (rules.children k s) es fs

abbrev pub sizes_of : {V : Type 0} → FormatRules → Request V → List (ℕ × LevelSize)
sizes_of rules r = level_sizes rules (coordinates_of (tensor_of r)) 0 1 r.extents r.formats

-- the children of the last level, or one where there is no level
abbrev pub positions_from : ℕ → FormatRules → List (ℕ × LevelSize) → ℕ
positions_from f rules [] = f
positions_from f rules (l ∷ ls) = positions_from (rules.children l.0 l.1) rules ls

abbrev pub positions_used : {V : Type 0} → FormatRules → Request V → ℕ
positions_used rules r = positions_from 1 rules (sizes_of rules r)

-- 5: the levels need over L words, or a level has over 65,536 children, or there are over P value positions.
abbrev pub no_room : {V : Type 0} → Sizes → FormatRules → Request V → Bool
no_room sizes rules r =
    nat_lt sizes.level_words (sum (map (λ l. rules.need l.0 l.1) (sizes_of rules r)))
    || (some_pass (λ l. ltb 65536 (rules.children l.0 l.1)) (sizes_of rules r) || nat_lt sizes.positions (positions_used rules r))

-- Why a STORE is refused, tried in this order; none where it is accepted.
abbrev pub entry_fault : Option ℕ → Option Fault → Option Fault
entry_fault None rest = rest
entry_fault (Some k) rest = Some (entry k)

abbrev pub store_fault : {V : Type 0} → Sizes → FormatRules → Request V → Option Fault
store_fault sizes rules r =
    cond (nat_lt 7 r.slot) (Some (no_slot r.slot))
    (cond (bad_shape r) (Some shape) (entry_fault (bad_entry (tensor_of r)) (cond (no_room sizes rules r) (Some room) None)))
