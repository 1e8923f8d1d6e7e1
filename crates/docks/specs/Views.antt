-- What a table in memory stands for. Assumes nothing.
use Rattle.std.specs.Prelude.{ℕ, List, map, take}
use Rattle.docks.specs.Tables.{Entry}
use Rattle.docks.specs.declared.name.Name.{Name}
use Rattle.docks.specs.declared.dock.Dock.{Dock}
use Rattle.docks.specs.declared.table.Table.{Table}

abbrev pub name_bytes : Name → List ℕ
name_bytes n = take n.len n.bytes

abbrev pub entry_of : Dock → Entry
entry_of d = record { name = name_bytes d.name; leg_in = d.leg_in.value; leg_out = d.leg_out.value }

abbrev pub entries : Table → List Entry
entries t = map entry_of (take t.count t.docks)
