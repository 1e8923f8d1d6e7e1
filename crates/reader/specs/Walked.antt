-- What an iterator over a list of variables has left. Assumes nothing.
use Rattle.std.specs.Prelude.{ℕ, List}
use Rattle.model.specs.Reading.{placed_vars}
use Rattle.reader.specs.declared.vars.Vars.{Vars}
use Rattle.reader.specs.Lists.{listed}

abbrev pub left : Vars → List (ℕ × ℕ)
left v = placed_vars v.list.place (listed v.text.now v.list.place v.list.count)
