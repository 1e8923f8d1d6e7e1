use Rattle.std.proofs.Common.{◌≡◌, ◌+◌, ◌*◌, ◌∙◌, rules}
use Rattle.std.specs.Option.{IfSome}
use Rattle.std.proofs.lemmas.Option.{IfSome_then}
use Rattle.formats.specs.Rows.{rows_at_tested, rows_at_no_fiber}
use Rattle.formats.proofs.dense.DenseFormat.at.Goals as goal
use Rattle.formats.proofs.dense.DenseFormat.at.Goals.{then-p-size, else-p-size}

pub returns : goal.returns
returns c =
    let e = c.args.size.extent in
    let f = c.args.size.fibers in
    let is : IfSome c.then.result (λ x. x ≡ (c.args.n, c.args.p * e + c.args.n)) = IfSome_then c.then.result c.then.ensures.some (λ x h. search rules) in
    elim c.if-p-size.branch [
      | then-p-size w ↦
          rows_at_tested f (λ _. e) (λ p k. (k, p * e + k)) c.args.p c.args.n c.then.result w.if-p-size.true (c.then.ensures.variant ∙ w.then-is) is
      | else-p-size w ↦
          rows_at_no_fiber f (λ _. e) (λ p k. (k, p * e + k)) c.args.p c.args.n c.then.result w.if-p-size.false (c.then.ensures.variant ∙ w.then-is)
    ]
