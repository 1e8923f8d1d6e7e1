-- The commands of a graph one by one, and the streams that each reads and makes. Assumes nothing.
use Rattle.std.specs.Prelude.{◌≡◌, ℕ, ◌+◌, ◌≤◌, List, [], ◌∷◌, ◌++◌, length, take, drop, Some, None, Option, ◌≢◌}
use Rattle.commands.specs.declared.command.Command.{Command}
use Rattle.commands.specs.Bytes.{bytes}
use Rattle.commands.specs.Held.{held}
use Rattle.model.specs.Commands as model
use Rattle.model.specs.Commands.{bytes_of}
use Rattle.model.specs.Bounds.{Small}
use Rattle.listings.specs.declared.Placed.{Placed}
use Rattle.listings.specs.declared.Streams.{Streams}

-- the command whose bytes stand at a place, and the place behind them; none where no command's bytes do
abbrev pub StandsAt : List ℕ → ℕ → Option Placed → Type 0
StandsAt s at (Some p) = (at ≤ length s) × (p.next ≡ at + length (bytes p.command)) × ((rest : List ℕ) × (drop at s ≡ bytes p.command ++ rest))
StandsAt s at None = (c : Command) (rest : List ℕ) → at ≤ length s → drop at s ≢ bytes c ++ rest

-- a small command of the model is found where its bytes stand
abbrev pub FindsModel : List ℕ → ℕ → Option Placed → Type 0
FindsModel s at r =
    (m : model.Command) (rest : List ℕ) → Small m → at ≤ length s → drop at s ≡ bytes_of m ++ rest →
    r ≡ Some (record { command = held m; next = at + length (bytes_of m) })

abbrev pub streams_read : model.Command → List ℕ
streams_read (model.ROOT out) = []
streams_read (model.SCAN t l r c k) = r ∷ []
streams_read (model.MEET a b out) = a ∷ b ∷ []
streams_read (model.JOIN a b out) = a ∷ b ∷ []
streams_read (model.ALIGN c r z out) = c ∷ r ∷ z ∷ []
streams_read (model.REPEAT r z out) = r ∷ z ∷ []
streams_read (model.LOAD t r out) = r ∷ []
streams_read (model.MUL a b out) = a ∷ b ∷ []
streams_read (model.ADD a b out) = a ∷ b ∷ []
streams_read (model.SUM a out) = a ∷ []
streams_read (model.WRITE d v zs ks) = v ∷ zs

abbrev pub streams_made : model.Command → List ℕ
streams_made (model.ROOT out) = out ∷ []
streams_made (model.SCAN t l r c k) = c ∷ k ∷ []
streams_made (model.MEET a b out) = out ∷ []
streams_made (model.JOIN a b out) = out ∷ []
streams_made (model.ALIGN c r z out) = out ∷ []
streams_made (model.REPEAT r z out) = out ∷ []
streams_made (model.LOAD t r out) = out ∷ []
streams_made (model.MUL a b out) = out ∷ []
streams_made (model.ADD a b out) = out ∷ []
streams_made (model.SUM a out) = out ∷ []
streams_made (model.WRITE d v zs ks) = []

abbrev pub Lists : Streams → List ℕ → Type 0
Lists r xs = (r.len ≤ 5) × (take r.len r.numbers ≡ xs)
