use Rattle.std.proofs.Common.{◌≡◌, ◌<◌, length, take, arith, subst, ◌∙◌}
use Rattle.std.proofs.lemmas.List.{ext_get_or, length-take, length-set, get_or-set_other}
use Rattle.reader.specs.declared.node.Node.TheVariants.{Access}
use Rattle.reader.specs.Order.{node, Before, Behind}
use Rattle.reader.proofs.Ordered.{made_at, written_up_to}
use Rattle.reader.proofs.arena.Arena.of.Goals as goal

pub loop-at-preserved : goal.loop-at-preserved
loop-at-preserved c =
    let a = c.loop-at.arena in
    let at = c.loop-at.at in
    let ns = c.args.nodes.now in
    let i = c.loop-at.invariant in
    let below : at < a.len = omega (arith, c.loop-at-test.true, i.0, c.of_any-arena.ensures.many) in
    let within : at < length a.nodes = omega (arith, below, i.0, i.1) in
    let read : node (take a.len a.nodes) at ≡ node ns at = made_at a at below ∙ i.4 at (omega arith) below in
    let new : Behind (node ns at) at c.node.result = subst (λ x. Behind x at c.node.result) read c.node.ensures.each in (
      i.0,
      length-set a.nodes at c.node.result ∙ i.1,
      written_up_to a.nodes at c.node.result within (λ j x. Before x j) c.node.ensures.before i.2,
      written_up_to a.nodes at c.node.result within (λ j x. Behind (node ns j) j x) new i.3,
      λ j more lt. get_or-set_other a.nodes at j c.node.result (Access 0 0 0) (λ e. absurd (omega (arith, e, more))) ∙ i.4 j (omega (arith, more)) lt,
    )

pub returns-clause-kept : goal.returns-clause-kept
returns-clause-kept c few first =
    let a = c.loop-at.arena in
    let ns = c.args.nodes.now in
    let i = c.loop-at.invariant in
    let all : a.len ≡ length ns = omega (arith, i.0, few) in
    let many = length-take a.len a.nodes in
    ext_get_or (Access 0 0 0) (take a.len a.nodes) ns (omega (arith, many, i.1, all, few))
    (λ j lt.
    let below : j < a.len = omega (arith, lt, many) in
    made_at a j below ∙ (i.3 j (omega (arith, below, i.0, c.loop-at-test.false, c.of_any-arena.ensures.many))).0 (first j (omega (arith, below, all))))
