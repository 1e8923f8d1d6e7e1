use Rattle.std.proofs.Common.{◌≡◌, suc, ◌+◌, ◌-◌, ◌≤◌, Some, refl, ap, subst, arith}
use Rattle.commands.specs.Held.{meant}
use Rattle.plans.specs.Rooms.{rules_of}
use Rattle.rack_state.specs.Snapshots.{view}
use Rattle.model.specs.Calls.{STEP, full, stepped, refused as refused_call}
use Rattle.rack_state.specs.Does.{Does}
use Rattle.rack_state.specs.declared.state.Loaded.{Loaded}
use Rattle.rack_steps.specs.Working.{working_in}
use Rattle.rack_steps.proofs.Advancing.{Stepped, after}
use Rattle.rack_steps.proofs.Lending.{refused, done, in_sizes, same_room}
use Rattle.rack_steps.proofs.StepCases.{refuses_empty, refuses_drained, refuses_missed, refuses_full, steps}
use Rattle.rack_steps.proofs.stepping.step.Goals as goal

pub returns-in_default : goal.returns-in_default
returns-in_default g c =
    refuses_empty g.V.Semiring.algebra g.V.Semiring.reads (rules_of g.S.Formats.wants g.S.Formats.births) g.S.Formats.meaning
    (view c.args.rack.now) c.in_default.is

pub returns-then-loaded-rack : goal.returns-then-loaded-rack
returns-then-loaded-rack g c =
    refuses_drained g.V.Semiring.algebra g.V.Semiring.reads (rules_of g.S.Formats.wants g.S.Formats.births) g.S.Formats.meaning
    (view c.args.rack.now) c.in-Some.loaded c.in-Some.is c.if-loaded-rack.true

pub returns-in_default-command_at : goal.returns-in_default-command_at
returns-in_default-command_at g c =
    refuses_missed g.V.Semiring.algebra g.V.Semiring.reads (rules_of g.S.Formats.wants g.S.Formats.births) g.S.Formats.meaning
    (view c.args.rack.now) c.in-Some.loaded c.in-Some.is c.if-loaded-rack.false c.in_default-command_at.ensures.model

pub returns-then-is_err : goal.returns-then-is_err
returns-then-is_err g c =
    let k = g.V.Semiring in
    let f = g.S.Formats in
    let rack = c.args.rack.now in
    let x = c.carry_within-carried.new in
    let rules = rules_of f.wants f.births in
    let work = working_in x.streams x.results in
    let carried = subst (λ b. Stepped k.algebra k.reads rules f.meaning (view rack) (meant c.in-Some-command_at.placed.command) b work)
    (refused c.carry_within-carried.result c.is_err.result c.is_err.ensures.value c.if-is_err.true) c.carry_within-carried.ensures.carried in
    let base = refuses_full k.algebra k.reads rules f.meaning (view rack) c.in-Some.loaded c.in-Some.is c.if-loaded-rack.false
    c.in-Some-command_at.placed c.in-Some-command_at.ensures.model rack.streams.few_values rack.results.few_places work carried
    (subst (λ n. rack.streams.word_room ≤ n) rack.streams.words.ok.0 rack.streams.words_fit)
    (subst (λ n. rack.streams.value_room ≤ n) rack.streams.values.ok.0 rack.streams.values_fit)
    (subst (λ n. rack.results.places ≤ n) rack.results.keys.ok.0 rack.results.keys_fit)
    (subst (λ n. rack.results.places ≤ n) rack.results.sums.ok.0 rack.results.sums_fit) in
    subst (λ z. Does k.algebra k.reads rules f.meaning STEP (view rack) (refused_call (full c.in-Some.loaded.done)) (in_sizes (after (view rack) rack.loaded work) z))
    (same_room rack.tensors.room rack.streams x.streams rack.results x.results c.carry_within-carried.ensures.rooms) base

pub returns : goal.returns
returns g c =
    let k = g.V.Semiring in
    let f = g.S.Formats in
    let rack = c.args.rack.now in
    let x = c.carry_within-carried.new in
    let rules = rules_of f.wants f.births in
    let work = working_in x.streams x.results in
    let carried = subst (λ b. Stepped k.algebra k.reads rules f.meaning (view rack) (meant c.in-Some-command_at.placed.command) b work)
    (done c.carry_within-carried.result c.is_err.result c.is_err.ensures.value c.if-is_err.false) c.carry_within-carried.ensures.carried in
    let more : c.in-Some.loaded.done + 1 ≡ suc c.in-Some.loaded.done = omega arith in
    let next : Loaded = record { at = c.in-Some-command_at.placed.next; done = c.in-Some.loaded.done + 1; left = c.in-Some.loaded.left } in
    let base = steps k.algebra k.reads rules f.meaning (view rack) c.in-Some.loaded c.in-Some.is c.if-loaded-rack.false
    c.in-Some-command_at.placed c.in-Some-command_at.ensures.model rack.streams.few_values rack.results.few_places work carried
    next refl more refl (rack.graph.commands - (c.in-Some.loaded.done + 1)) (ap (λ n. rack.graph.commands - n) more) in
    subst (λ z. Does k.algebra k.reads rules f.meaning STEP (view rack) (stepped (rack.graph.commands - (c.in-Some.loaded.done + 1))) (in_sizes (after (view rack) (Some next) work) z))
    (same_room rack.tensors.room rack.streams x.streams rack.results x.results c.carry_within-carried.ensures.rooms) base
