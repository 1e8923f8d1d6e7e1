use Rattle.std.proofs.Common.{◌||◌, ap, ◌∙◌}
use Rattle.model.specs.Tensors.{has}
use Rattle.reader.specs.Lists.{vars_of}
use Rattle.lines.proofs.Members.{or_none}
use Rattle.lines.proofs.Describing.{left_vars_in}
use Rattle.lines.proofs.Rules.{uneven_rule}
use Rattle.lines.proofs.line.Syntax.unevenness.Goals as goal

pub returns : goal.returns
returns c = λ l h d.
    uneven_rule c.args.text.now c.args.self.now l h d c.add.new.self _ _ _
    (λ v is. c.add.ensures (left_vars_in c.args.text.now c.args.self.now l h d) v is ∙ ap (λ b. has (vars_of c.args.text.now c.args.self.now.left) v || b) (c.new-left.ensures v is) ∙ or_none _)
    c.uneven_sum-sum.ensures c.lacking_term-term.ensures c.left_of.ensures
