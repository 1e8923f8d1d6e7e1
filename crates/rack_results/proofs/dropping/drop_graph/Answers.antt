use Rattle.std.proofs.Common.{refl}
use Rattle.plans.specs.Rooms.{rules_of}
use Rattle.rack_state.specs.Snapshots.{view}
use Rattle.rack_results.proofs.Graphs.{drop_none, drop_loaded}
use Rattle.rack_results.proofs.dropping.drop_graph.Goals as goal

pub returns-in_default : goal.returns-in_default
returns-in_default g c = record {
  does =
      drop_none g.V.Semiring.algebra g.V.Semiring.reads (rules_of g.S.Formats.wants g.S.Formats.births) g.S.Formats.meaning (view c.args.rack.now) c.in_default.is;
  freed = tt;
}

pub returns : goal.returns
returns g c = record {
  does =
      drop_loaded g.V.Semiring.algebra g.V.Semiring.reads (rules_of g.S.Formats.wants g.S.Formats.births) g.S.Formats.meaning (view c.args.rack.now) c.in-Some.loaded
      c.in-Some.is _ (record { sizes = refl; slots = refl; words = refl; values = refl; keys = refl; sums = refl }) refl refl;
  freed = (c.clear.ensures, refl);
}
