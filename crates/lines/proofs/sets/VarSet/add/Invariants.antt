use Rattle.std.proofs.Common.{◌≡◌, ℕ, true, ◌||◌}
use Rattle.model.specs.Tensors.{has}
use Rattle.model.specs.Grammar.{is_var, Vars}
use Rattle.reader.specs.Lists.{vars_of}
use Rattle.reader.specs.Walked.{left}
use Rattle.reader.proofs.Having.{bare}
use Rattle.lines.specs.Sets.{in_set}
use Rattle.lines.proofs.sets.VarSet.add.Given as goal

abbrev pub invariant-loop-var : goal.invariant-loop-var
invariant-loop-var l =
    Vars (vars_of l.text l.fn.list) → Vars (bare (left l.var-iterator))
    × ((v : ℕ) → is_var v ≡ true → (has (bare (left l.var-iterator)) v || in_set l.self v) ≡ (has (vars_of l.text l.fn.list) v || in_set l.initial.self v))
