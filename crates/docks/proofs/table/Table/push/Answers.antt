use Rattle.std.proofs.Common.{◌∙◌, arith}
use Rattle.std.proofs.lemmas.List.{length-set}
use Rattle.docks.proofs.Holds.{length_entries, pushed}
use Rattle.docks.proofs.table.Table.push.Goals as goal

pub listed : goal.listed
listed c = omega (arith, length_entries c.args.self.now, c.args.self.now.room)

pub bounds-self-self : goal.bounds-self-self
bounds-self-self c = omega (arith, length_entries c.args.self.now)

pub invariant_of-self : goal.invariant_of-self
invariant_of-self c = record {
  room = length-set c.args.self.now.docks _ _ ∙ c.args.self.now.room;
  fits = omega (arith, length_entries c.args.self.now);
}

pub returns : goal.returns
returns c = pushed c.args.self.now.docks c.args.self.now.count c.args.dock (omega (arith, length_entries c.args.self.now, c.args.self.now.room))
