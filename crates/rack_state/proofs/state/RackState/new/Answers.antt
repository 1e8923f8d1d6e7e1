use Rattle.std.proofs.Common.{sym, arith}
use Rattle.rack_state.specs.Snapshots.{sizes_given, lengths}
use Rattle.rack_state.proofs.Right.{Right, right}
use Rattle.rack_state.proofs.state.RackState.new.Goals as goal

-- sizes that pass are in range
pub returns-in_default : goal.returns-in_default
returns-in_default g c =
    let h : Right (sizes_given c.args.sizes) (lengths c.args.areas) = right (sizes_given c.args.sizes) (lengths c.args.areas) (sym c.if-are_wrong.ensures) in
    absurd (c.in_default.ensures (h.positions.0, h.positions.1, h.level_words.0, h.level_words.1))

pub invariant_of-result : goal.invariant_of-result
invariant_of-result g c =
    let h : Right (sizes_given c.args.sizes) (lengths c.args.areas) = right (sizes_given c.args.sizes) (lengths c.args.areas) (sym c.if-are_wrong.ensures) in
    let e = c.in-Some.ensures in
    record { words_fit = omega (arith, h.level_area, e.2); values_fit = omega (arith, h.slot_area, e.1) }

pub invariant_of-result-2 : goal.invariant_of-result-2
invariant_of-result-2 g c =
    let h : Right (sizes_given c.args.sizes) (lengths c.args.areas) = right (sizes_given c.args.sizes) (lengths c.args.areas) (sym c.if-are_wrong.ensures) in
    record { few_words = h.stream_words.1; few_values = h.stream_values.1; words_fit = h.words_area; values_fit = h.values_area }

pub invariant_of-result-3 : goal.invariant_of-result-3
invariant_of-result-3 g c =
    let h : Right (sizes_given c.args.sizes) (lengths c.args.areas) = right (sizes_given c.args.sizes) (lengths c.args.areas) (sym c.if-are_wrong.ensures) in
    record { few_places = h.places.1; keys_fit = h.keys_area; sums_fit = h.sums_area }
