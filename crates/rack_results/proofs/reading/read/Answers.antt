use Rattle.std.proofs.Common.{rules, ◌≡◌, take, sym, subst}
use Rattle.std.specs.Option.{option_map}
use Rattle.model.specs.Calls.{READ, listed}
use Rattle.results.specs.Keys.{coordinates}
use Rattle.rack_state.specs.Answered.{entry_of}
use Rattle.rack_state.specs.Does.{Does}
use Rattle.plans.specs.Rooms.{rules_of}
use Rattle.rack_state.specs.Snapshots.{view}
use Rattle.rack_results.proofs.Graphs.{read_none, read_early, read_listed}
use Rattle.rack_results.proofs.reading.read.Goals as goal

pub returns-in_default : goal.returns-in_default
returns-in_default g c =
    read_none g.V.Semiring.algebra g.V.Semiring.reads (rules_of g.S.Formats.wants g.S.Formats.births) g.S.Formats.meaning (view c.args.rack.now) c.in_default.is
    c.args.n

pub returns-then-loaded-rack : goal.returns-then-loaded-rack
returns-then-loaded-rack g c =
    read_early g.V.Semiring.algebra g.V.Semiring.reads (rules_of g.S.Formats.wants g.S.Formats.births) g.S.Formats.meaning (view c.args.rack.now) c.in-Some.loaded
    c.in-Some.is c.args.n c.if-loaded-rack.true

pub returns : goal.returns
returns g c =
    let k = g.V.Semiring in
    let f = g.S.Formats in
    let entries : option_map entry_of c.map.result ≡ option_map (λ e. (take c.in-Some.loaded.left (coordinates e.0), e.1)) c.nth_nonzero-found.result = search (rules, c.map.ensures) in
    subst (λ o. Does k.algebra k.reads (rules_of f.wants f.births) f.meaning (READ c.args.n) (view c.args.rack.now) (listed o) (view c.args.rack.now)) (sym entries)
    (read_listed k.algebra k.reads (rules_of f.wants f.births) f.meaning (view c.args.rack.now) c.in-Some.loaded
    c.in-Some.is c.args.n c.if-loaded-rack.false c.deref.result.now c.deref-2.result.now c.deref.ensures.value c.deref-2.ensures.value c.nth_nonzero-found.result c.nth_nonzero-found.ensures)
