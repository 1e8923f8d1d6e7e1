use Rattle.std.proofs.Common.{rules, ℕ, eqb, ap, ◌∙◌}
use Rattle.std.proofs.lemmas.Iterator.Search.{any_from_yields_List}
use Rattle.std.proofs.lemmas.Iterator.Consumers.{YieldsList-from_first}
use Rattle.model.specs.Tensors.{has}
use Rattle.reader.specs.Lists.{placed_of, vars_of}
use Rattle.reader.specs.Walked.{left}
use Rattle.reader.proofs.Having.{any_has, bare_placed}
use Rattle.reader.proofs.vars.VarList.contains.Goals as goal

pub returns : goal.returns
returns c =
    let placed = placed_of c.args.text.now c.args.self in
    any_from_yields_List (λ (x : ℕ × ℕ). eqb x.1 c.args.var) c.any.new.self _ _ c.any.ensures.ran (YieldsList-from_first (λ x. x) left placed c.vars.ensures) (λ x b q k. search rules)
    ∙ any_has c.args.var placed
    ∙ ap (λ l. has l c.args.var) (bare_placed c.args.self.place (vars_of c.args.text.now c.args.self))
