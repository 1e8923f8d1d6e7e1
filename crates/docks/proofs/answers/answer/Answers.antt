use Rattle.std.proofs.Common.{rules}
use Rattle.docks.proofs.Rows.{front_read, dot_at, unwrapped}
use Rattle.docks.proofs.answers.answer.Goals as goal

pub returns : goal.returns
returns g c =
    let k = g.V.Semiring in
    let worth = g.V.Leg.worth in
    let ds = c.args.docks.now in
    let again = g.met.V.Semiring.again in
    let first = c.fill.ensures (λ e. e.leg_in) (λ d t r. search rules) in
    let second = c.fill-2.ensures (λ e. e.leg_out) (λ d t r. search rules) in
    dot_at k.algebra (unwrapped _ c.dot.result c.unwrap.result c.dot.ensures c.unwrap.ensures)
    (front_read k.reads k.stored again (λ e. worth e.leg_in) ds _ _ first)
    (front_read k.reads k.stored again (λ e. worth e.leg_out) ds _ _ second)
