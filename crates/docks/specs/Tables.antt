-- A text table of cross docks: its lines, what a line says, and what the whole table says. Assumes nothing.
use Rattle.std.specs.Prelude.{ℕ, ◌+◌, ◌-◌, ◌*◌, Bool, cond, ◌&&◌, ◌||◌, List, [], ◌∷◌, length, Ok, Err, fold, Result, ◌==◌, nat_le, nat_lt, slice_index}
use Rattle.std.specs.Result.{result_map_both}
use Rattle.std.specs.List.{list_all}
use Rattle.std.specs.Char.{is_ascii_digit, is_ascii_alphanumeric}
use Rattle.docks.specs.declared.fault.TableFault.{TableFault}
use Rattle.docks.specs.declared.fault.TableFault.TheVariants.{Fields, Name, Number, TooLarge, TooMany}
use Rattle.docks.specs.declared.fault.TableError.{TableError}

-- a byte put before the first piece
abbrev pub onto : ℕ → List (List ℕ) → List (List ℕ)
onto b [] = (b ∷ []) ∷ []
onto b (p ∷ ps) = (b ∷ p) ∷ ps

-- The lines of a text. A newline, 10, ends a line; the last line may lack it.
abbrev pub lines : List ℕ → List (List ℕ)
lines [] = []
lines (b ∷ bs) = cond (b == 10) ([] ∷ lines bs) (onto b (lines bs))

-- The fields of a line: what stands between its spaces, 32. One more than there are spaces.
abbrev pub fields : List ℕ → List (List ℕ)
fields [] = [] ∷ []
fields (b ∷ bs) = cond (b == 32) ([] ∷ fields bs) (onto b (fields bs))

-- the bytes of a name: letters, digits, '_' and '-'
abbrev pub is_name_byte : ℕ → Bool
is_name_byte b = is_ascii_alphanumeric b || (b == 95 || b == 45)

-- A name has 1 to 16 bytes.
abbrev pub is_name : List ℕ → Bool
is_name bs = nat_lt 0 (length bs) && (nat_le (length bs) 16 && list_all is_name_byte bs)

-- A number is digits, of which the first of several is not '0', 48.
abbrev pub is_number : List ℕ → Bool
is_number bs = list_all is_ascii_digit bs && (length bs == 1 || nat_lt 48 (slice_index bs 0))

abbrev pub decimal : List ℕ → ℕ
decimal bs = fold (λ n b. 10 * n + (b - 48)) 0 bs

-- The time of a leg: '-', 45, stands for none; any other time is a number below none.
abbrev pub leg : List ℕ → Result ℕ TableFault
leg bs =
    cond (length bs == 1 && slice_index bs 0 == 45) (Ok 4294967295)
    (cond (is_number bs) (cond (nat_lt (decimal bs) 4294967295) (Ok (decimal bs)) (Err TooLarge)) (Err Number))

-- A dock: its name, and the times of the leg into it and of the leg out of it.
pub record Entry : Type 0 where
  pub name : List ℕ
  pub leg_in : ℕ
  pub leg_out : ℕ

-- the first of two parts that is wrong, or both
abbrev pub both : {X Y Z F : Type 0} → (X → Y → Z) → Result X F → Result Y F → Result Z F
both f (Ok x) (Ok y) = Ok (f x y)
both f (Ok x) (Err e) = Err e
both f (Err e) r = Err e

abbrev pub entry : List ℕ → List ℕ → List ℕ → Result Entry TableFault
entry n i o = cond (is_name n) (both (λ x y. record { name = n; leg_in = x; leg_out = y }) (leg i) (leg o)) (Err Name)

-- A line has three fields: the name, the leg in, the leg out.
abbrev pub of_fields : List (List ℕ) → Result Entry TableFault
of_fields [] = Err Fields
of_fields (n ∷ []) = Err Fields
of_fields (n ∷ i ∷ []) = Err Fields
of_fields (n ∷ i ∷ o ∷ []) = entry n i o
of_fields (n ∷ i ∷ o ∷ x ∷ xs) = Err Fields

-- What the line with a number, from 1, says. A table has at most 64 lines.
abbrev pub says : ℕ → List ℕ → Result Entry TableError
says k line = result_map_both (λ e. e) (λ f. record { line = k; fault = f }) (cond (nat_lt 64 k) (Err TooMany) (of_fields (fields line)))

-- What the lines from number k on say: their docks in order, or the first of them that is at fault.
abbrev pub table : ℕ → List (List ℕ) → Result (List Entry) TableError
table k [] = Ok []
table k (l ∷ ls) = both ◌∷◌ (says k l) (table (k + 1) ls)
