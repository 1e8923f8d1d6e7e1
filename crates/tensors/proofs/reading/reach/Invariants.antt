use Rattle.std.proofs.Common.{◌≡◌, ◌≤◌, length, drop, Some}
use Rattle.model.specs.Tensors.{reached}
use Rattle.slots.specs.Layouts.{levels_on, Kept}
use Rattle.slots.specs.Records.{sizes}
use Rattle.plans.specs.Rooms.{rules_of}
use Rattle.tensors.proofs.reading.reach.Given as goal

-- the rest of the way leads where the whole way does
abbrev pub invariant-loop-level : goal.invariant-loop-level
invariant-loop-level g l =
    let rules = rules_of g.S.Formats.wants g.S.Formats.births in
    let ls = sizes l.fn.tensor in
    let i = length l.yielded in
    (l.start ≤ length l.words)
    × (Kept rules g.S.Formats.kept ls l.words → Kept rules g.S.Formats.kept (drop i ls) (drop l.start l.words))
    × (Kept rules g.S.Formats.kept ls l.words
    → reached (levels_on rules g.S.Formats.meaning (drop i ls) (drop l.start l.words)) l.reference (drop i l.coordinates)
    ≡ reached (levels_on rules g.S.Formats.meaning ls l.words) (Some 0) l.coordinates)
