-- The names of the blocks. Assumes nothing.
use Rattle.std.specs.Prelude.{ℕ, List, codes}
use Rattle.commands.specs.declared.command.Command.{Command}
use Rattle.commands.specs.declared.command.Command.TheVariants.{Root, Scan, Meet, Join, Align, Repeat, Load, Mul, Add, Sum, Write}

abbrev pub name_of : Command → List ℕ
name_of (Root out) = codes "ROOT"
name_of (Scan t l r c k) = codes "SCAN"
name_of (Meet a b out) = codes "MEET"
name_of (Join a b out) = codes "JOIN"
name_of (Align c r z out) = codes "ALIGN"
name_of (Repeat r z out) = codes "REPEAT"
name_of (Load t r out) = codes "LOAD"
name_of (Mul a b out) = codes "MUL"
name_of (Add a b out) = codes "ADD"
name_of (Sum a out) = codes "SUM"
name_of (Write d v zs ks) = codes "WRITE"
