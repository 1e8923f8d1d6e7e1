use Rattle.std.proofs.Common.{map, set, refl, ap, ◌∙◌, arith}
use Rattle.std.proofs.lemmas.Fn.{says_at}
use Rattle.semiring.proofs.Steps.{over_more, over_all}
use Rattle.docks.specs.Answers.{row}
use Rattle.docks.specs.Tables.{Entry}
use Rattle.docks.specs.Views.{entry_of}
use Rattle.docks.proofs.Rows.{length_row, leg_read}
use Rattle.docks.proofs.answers.fill.Goals as goal

pub loop-i-preserved : goal.loop-i-preserved
loop-i-preserved g c = λ time_of acts.
    let worth = g.V.Leg.worth in
    let stored = g.V.Semiring.stored in
    let ds = c.args.docks.now in
    let w = λ (e : Entry). worth (time_of e) in
    let n = length_row stored w ds in
    let said = acts c.index-docks-i.result c.leg.result (says_at g.F.Fn c.leg.ensures refl) in
    let is = leg_read stored w ds c.loop-i.i c.index-docks-i.result c.plain.result c.loop-i-test.true c.index-docks-i.is
    (c.plain.ensures ∙ ap stored (c.leg-in-loop-i.ensures ∙ ap worth said)) in
    ap (λ s. set s c.loop-i.i c.plain.result) (c.loop-i.invariant time_of acts)
    ∙ over_more (map stored (row worth time_of (map entry_of ds))) c.args.out.now c.loop-i.i c.plain.result (omega arith) (omega arith) is

pub returns : goal.returns
returns g c = λ time_of acts.
    let w = λ (e : Entry). g.V.Leg.worth (time_of e) in
    over_all _ _ _ _ _ (c.loop-i.invariant time_of acts) (length_row g.V.Semiring.stored w c.args.docks.now) c.loop-i-test.false c.loop-i.auto.i-end
