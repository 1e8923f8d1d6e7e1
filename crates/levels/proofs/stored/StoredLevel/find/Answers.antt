use Rattle.std.proofs.Common.{◌≡◌, ℕ, ◌+◌, ◌-◌, ◌/◌, get_or, Some, sym, arith}
use Rattle.std.specs.List.{slice_get}
use Rattle.std.proofs.lemmas.Option.{get_or_from_slice_get}
use Rattle.model.specs.Fibers.{Fiber, fiber}
use Rattle.levels.specs.Stored.{level_of}
use Rattle.levels.proofs.Halves.{left_none, read_held, read_hit, left_above, left_below}
use Rattle.levels.proofs.stored.StoredLevel.find.Goals as goal

-- the item that stands at a place
read : (xs : Fiber) (m : ℕ) (x : ℕ × ℕ) → Some x ≡ slice_get xs m → x ≡ get_or xs m (0, 0)
read xs m x e = sym (get_or_from_slice_get xs m x (0, 0) (sym e))

pub loop-low-preserved-then-coordinate-c-2 : goal.loop-low-preserved-then-coordinate-c-2
loop-low-preserved-then-coordinate-c-2 g c =
    let xs = fiber (level_of g.S.Formats.meaning c.args.self) c.args.p in
    let m = c.loop-low.low + (c.loop-low.high - c.loop-low.low) / 2 in (
      c.loop-low.invariant.0,
      c.loop-low.invariant.1,
      λ a. left_above xs c.args.c c.loop-low.low c.loop-low.high m (c.in_ok-coordinate.coordinate, c.in_ok-coordinate.found) (omega arith) (read xs m _ c.in_ok-coordinate.ensures) a c.if-coordinate-c-2.true (c.loop-low.invariant.2 a),
    )

pub returns-then-coordinate-c : goal.returns-then-coordinate-c
returns-then-coordinate-c g c =
    let xs = fiber (level_of g.S.Formats.meaning c.args.self) c.args.p in
    let m = c.loop-low.low + (c.loop-low.high - c.loop-low.low) / 2 in
    record {
      held = (m, read_held xs c.args.c 0 0 m (c.in_ok-coordinate.coordinate, c.in_ok-coordinate.found) (omega arith) (read xs m _ c.in_ok-coordinate.ensures) c.if-coordinate-c.true);
      exact = λ a. read_hit xs c.args.c 0 0 m (c.in_ok-coordinate.coordinate, c.in_ok-coordinate.found) (omega arith) (read xs m _ c.in_ok-coordinate.ensures) a c.if-coordinate-c.true;
    }

pub loop-low-preserved : goal.loop-low-preserved
loop-low-preserved g c =
    let xs = fiber (level_of g.S.Formats.meaning c.args.self) c.args.p in
    let m = c.loop-low.low + (c.loop-low.high - c.loop-low.low) / 2 in (
      omega arith,
      omega arith,
      λ a. left_below xs c.args.c c.loop-low.low c.loop-low.high m (c.in_ok-coordinate.coordinate, c.in_ok-coordinate.found) (omega arith) (read xs m _ c.in_ok-coordinate.ensures) a (omega arith) (c.loop-low.invariant.2 a),
    )

pub returns-clause-exact : goal.returns-clause-exact
returns-clause-exact g c = λ a.
    sym (left_none (fiber (level_of g.S.Formats.meaning c.args.self) c.args.p) c.args.c c.loop-low.low c.loop-low.high c.loop-low-test.false (c.loop-low.invariant.2 a))
