use Rattle.std.proofs.Common.{refl, arith}
use Rattle.results.proofs.Adding.{table_ascends, row_ascends}
use Rattle.results.proofs.table.ResultTable.add_value.Goals as goal

pub invariant_of-self : goal.invariant_of-self
invariant_of-self g c =
    let k = g.V.Semiring in
    let t = c.args.self.now in
    let r = c.in-Some.ensures in
    let a = table_ascends k.reads t.keys.now t.values.now t.len t.fit t.paired t.ascends in
    record {
      fit = omega arith;
      paired = omega arith;
      ascends = row_ascends k.reads c.add.new.keys c.add.new.values c.in-Some.n (omega arith) (omega arith) (r.ascends a);
    }

pub returns-in-Some : goal.returns-in-Some
returns-in-Some g c =
    let k = g.V.Semiring in
    let t = c.args.self.now in
    let r = c.in-Some.ensures in
    let a = table_ascends k.reads t.keys.now t.values.now t.len t.fit t.paired t.ascends in
    record { held = (r.table a, r.keys_past, r.values_past); keys = refl {a = t.keys.ghost_name}; values = refl {a = t.values.ghost_name} }

pub returns-in-None : goal.returns-in-None
returns-in-None g c =
    let k = g.V.Semiring in
    let t = c.args.self.now in
    let r = c.in-None.ensures in
    let a = table_ascends k.reads t.keys.now t.values.now t.len t.fit t.paired t.ascends in
    record { held = (r.0, r.1, refl {a = t.len}, r.2 a); keys = refl {a = t.keys.ghost_name}; values = refl {a = t.values.ghost_name} }
