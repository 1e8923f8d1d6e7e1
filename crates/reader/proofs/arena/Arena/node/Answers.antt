use Rattle.std.proofs.Common.{take, sym, subst, refl}
use Rattle.reader.specs.Order.{node, Behind}
use Rattle.reader.proofs.Ordered.{made_at, before_at, got_behind}
use Rattle.reader.proofs.arena.Arena.node.Goals as goal

pub returns-clause-each : goal.returns-clause-each
returns-clause-each c =
    let a = c.args.self.now in
    subst (λ x. Behind x c.args.at c.unwrap_or_default.result) (sym (made_at a c.args.at c.if-at-self.false))
    (got_behind c.get.result (node a.nodes c.args.at) _ c.args.at c.get.ensures c.unwrap_or_default.ensures)

pub returns-clause-value : goal.returns-clause-value
returns-clause-value c first = (returns-clause-each c).0 (before_at (take c.args.self.now.len c.args.self.now.nodes) c.args.at _ first refl)
