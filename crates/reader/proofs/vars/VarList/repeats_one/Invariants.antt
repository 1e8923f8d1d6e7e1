use Rattle.std.proofs.Common.{◌≡◌}
use Rattle.model.specs.Conditions.{repeats}
use Rattle.reader.specs.Lists.{vars_of}
use Rattle.reader.specs.Walked.{left}
use Rattle.reader.proofs.Having.{bare}
use Rattle.reader.proofs.vars.VarList.repeats_one.Given as goal

abbrev pub invariant-vars : goal.invariant-vars
invariant-vars l = repeats (bare (left l.later)) ≡ repeats (vars_of l.text l.fn.self)
