use Rattle.std.proofs.Common.{◌≡◌, min, take}
use Rattle.slots.specs.Layouts.{needed}
use Rattle.slots.specs.Records.{sizes}
use Rattle.plans.specs.Rooms.{rules_of}
use Rattle.placing.proofs.level_words.words_of.Given as goal

abbrev pub invariant-loop-level : goal.invariant-loop-level
invariant-loop-level g l =
    l.end ≡ min (needed (rules_of g.S.Formats.wants g.S.Formats.births) (take l.level-index (sizes l.fn.tensor))) l.limit
