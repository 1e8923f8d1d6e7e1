use Rattle.std.proofs.Common.{◌≡◌, ◌≤◌, ◌++◌, map, take, drop}
use Rattle.plans.specs.Rows.{rows_in}
use Rattle.tensors.specs.Fillings.{picked, pair_of}
use Rattle.tensors.proofs.lists.pick.Given as goal

-- what is collected, and what the rows that are left give, is all
abbrev pub invariant-loop-k : goal.invariant-loop-k
invariant-loop-k l =
    let css = rows_in l.rows in
    (l.n ≤ l.k) × (map pair_of (take l.n l.entries) ++ picked l.depth (drop l.k l.owners) (drop l.k css) ≡ picked l.depth l.owners css)
