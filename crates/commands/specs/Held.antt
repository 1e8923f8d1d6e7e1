-- A command as the model has it, and as it is held. Assumes nothing.
use Rattle.std.specs.Prelude.{◌≡◌, ℕ, cond, List, [], ◌∷◌, ◌++◌, take, Ok, Some, Option, Result, ◌==◌, slice_index, refl}
use Rattle.model.specs.Commands as model
use Rattle.model.specs.Commands.{bytes_of, filled}
use Rattle.model.specs.Bounds.{Small}
use Rattle.commands.specs.declared.command.Command.{Command}
use Rattle.commands.specs.declared.command.Command.TheVariants.{Root, Scan, Meet, Join, Align, Repeat, Load, Mul, Add, Sum, Write}
use Rattle.commands.specs.declared.command.Padded.{Padded}
use Rattle.commands.specs.declared.command.UnknownCommand.{UnknownCommand}
use Rattle.commands.specs.Bytes.{bytes, depth_streams, key_depths}

abbrev pub streams_held : List ℕ → Padded 4
streams_held xs = record { bytes = slice_index xs 0 ∷ slice_index xs 1 ∷ slice_index xs 2 ∷ slice_index xs 3 ∷ []; whole = refl }

abbrev pub keys_held : List ℕ → Padded 3
keys_held xs = record { bytes = slice_index xs 0 ∷ slice_index xs 1 ∷ slice_index xs 2 ∷ []; whole = refl }

-- the coordinate streams and keys of a WRITE are filled up
abbrev pub held : model.Command → Command
held (model.ROOT out) = Root out
held (model.SCAN t l r c k) = Scan t l r c k
held (model.MEET a b out) = Meet a b out
held (model.JOIN a b out) = Join a b out
held (model.ALIGN c r z out) = Align c r z out
held (model.REPEAT r z out) = Repeat r z out
held (model.LOAD t r out) = Load t r out
held (model.MUL a b out) = Mul a b out
held (model.ADD a b out) = Add a b out
held (model.SUM a out) = Sum a out
held (model.WRITE d v zs ks) = Write d v (streams_held (filled 4 0xFF zs)) (keys_held (filled 3 0x00 ks))

-- those before the first 00
abbrev pub nonzero_front : List ℕ → List ℕ
nonzero_front [] = []
nonzero_front (k ∷ ks) = cond (k == 0x00) [] (k ∷ nonzero_front ks)

-- a WRITE has as many coordinate streams as its depth, and the keys before the first 00
abbrev pub meant : Command → model.Command
meant (Root out) = model.ROOT out
meant (Scan t l r c k) = model.SCAN t l r c k
meant (Meet a b out) = model.MEET a b out
meant (Join a b out) = model.JOIN a b out
meant (Align c r z out) = model.ALIGN c r z out
meant (Repeat r z out) = model.REPEAT r z out
meant (Load t r out) = model.LOAD t r out
meant (Mul a b out) = model.MUL a b out
meant (Add a b out) = model.ADD a b out
meant (Sum a out) = model.SUM a out
meant (Write d v zs ks) = model.WRITE d v (take d (depth_streams zs)) (nonzero_front (key_depths ks))

-- A command of the model is held with the bytes that it has there, and means itself again if it is small.
pub record Kept (m : model.Command) : Type 0 where
  pub same : bytes (held m) ≡ bytes_of m
  pub again : Small m → meant (held m) ≡ m

-- What is read of bytes that begin with a small command of the model is that command.
abbrev pub ReadsModel : List ℕ → Result (Option Command) UnknownCommand → Type 0
ReadsModel s r =
    (m : model.Command) (rest : List ℕ) → Small m → s ≡ bytes_of m ++ rest → (r ≡ Ok (Some (held m))) × (meant (held m) ≡ m)
