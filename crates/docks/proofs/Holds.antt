-- What a table holds after each change. Assumes nothing.
use Rattle.std.proofs.Common.{◌≡◌, ℕ, ◌+◌, ◌<◌, List, [], ◌∷◌, ◌++◌, map, length, take, set, sym, ap, ◌∙◌, arith}
use Rattle.std.proofs.lemmas.List.{length-map, length-take-le, take_more_set, map_push}
use Rattle.docks.specs.Views.{entry_of, entries}
use Rattle.docks.specs.declared.dock.Dock.{Dock}
use Rattle.docks.specs.declared.table.Table.{Table}

pub length_entries : (t : Table) → t.count ≡ length (entries t)
length_entries t = sym (length-map (take t.count t.docks) entry_of ∙ length-take-le t.count t.docks (omega (arith, t.room, t.fits)))

pub pushed : (ds : List Dock) (n : ℕ) (d : Dock) → n < length ds → map entry_of (take (n + 1) (set ds n d)) ≡ map entry_of (take n ds) ++ entry_of d ∷ []
pushed ds n d h = ap (map entry_of) (take_more_set ds n d h) ∙ map_push entry_of (take n ds) d
