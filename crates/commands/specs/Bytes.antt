-- The bytes of a command as it is held, and what stands at the front of some bytes. Assumes nothing.
use Rattle.std.specs.Prelude.{◌≡◌, ℕ, ◌<◌, ◌≤◌, cond, List, [], ◌∷◌, ◌++◌, length, drop, Some, None, Option, Ok, Err, Result, ◌==◌, ◌≢◌}
use Rattle.commands.specs.declared.command.Command.{Command}
use Rattle.commands.specs.declared.command.Command.TheVariants.{Root, Scan, Meet, Join, Align, Repeat, Load, Mul, Add, Sum, Write}
use Rattle.commands.specs.declared.command.Padded.{Padded}
use Rattle.commands.specs.declared.command.UnknownCommand.{UnknownCommand}

abbrev pub depth_streams : Padded 4 → List ℕ
depth_streams z = z.bytes

abbrev pub key_depths : Padded 3 → List ℕ
key_depths k = k.bytes

-- the byte of the block, then a byte for each operand
abbrev pub bytes : Command → List ℕ
bytes (Root out) = 0x01 ∷ out ∷ []
bytes (Scan t l r c k) = 0x02 ∷ t ∷ l ∷ r ∷ c ∷ k ∷ []
bytes (Meet a b out) = 0x03 ∷ a ∷ b ∷ out ∷ []
bytes (Join a b out) = 0x04 ∷ a ∷ b ∷ out ∷ []
bytes (Align c r z out) = 0x05 ∷ c ∷ r ∷ z ∷ out ∷ []
bytes (Repeat r z out) = 0x06 ∷ r ∷ z ∷ out ∷ []
bytes (Load t r out) = 0x07 ∷ t ∷ r ∷ out ∷ []
bytes (Mul a b out) = 0x08 ∷ a ∷ b ∷ out ∷ []
bytes (Add a b out) = 0x09 ∷ a ∷ b ∷ out ∷ []
bytes (Sum a out) = 0x0A ∷ a ∷ out ∷ []
bytes (Write d v zs ks) = 0x0B ∷ d ∷ v ∷ (depth_streams zs ++ key_depths ks)

-- how many operands the block of a byte has
abbrev pub operands : ℕ → Option ℕ
operands b =
    cond (b == 0x01) (Some 1) (cond (b == 0x02) (Some 5) (cond (b == 0x03) (Some 3) (cond (b == 0x04) (Some 3)
    (cond (b == 0x05) (Some 4) (cond (b == 0x06) (Some 3) (cond (b == 0x07) (Some 3) (cond (b == 0x08) (Some 3)
    (cond (b == 0x09) (Some 3) (cond (b == 0x0A) (Some 2) (cond (b == 0x0B) (Some 9) None))))))))))

-- The bytes begin with a command; or with the end; or with neither, and then with no command whatever its operands.
abbrev pub Begins : List ℕ → Result (Option Command) UnknownCommand → Type 0
Begins s (Ok (Some c)) = (rest : List ℕ) × (s ≡ bytes c ++ rest)
Begins s (Ok None) = (rest : List ℕ) × (s ≡ 0x00 ∷ rest)
Begins s (Err e) = ((c : Command) (rest : List ℕ) → s ≢ bytes c ++ rest) × ((rest : List ℕ) → s ≢ 0x00 ∷ rest)

-- A command is read back, whatever stands behind its bytes.
abbrev pub Rereads : List ℕ → Result (Option Command) UnknownCommand → Type 0
Rereads s r = (c : Command) (rest : List ℕ) → s ≡ bytes c ++ rest → r ≡ Ok (Some c)

-- A command is written to the front of an area, whose rest stays; or it is longer than the area, and nothing changes.
abbrev pub Encoded : Command → List ℕ → Option ℕ → List ℕ → Type 0
Encoded c before (Some n) after = (n ≡ length (bytes c)) × (n ≤ length before) × (after ≡ bytes c ++ drop n before)
Encoded c before None after = (length before < length (bytes c)) × (after ≡ before)
