use Rattle.std.proofs.Common.{length, sym, ap, ◌∙◌}
use Rattle.std.proofs.lemmas.List.{length-map}
use Rattle.docks.specs.Views.{entry_of}
use Rattle.docks.proofs.table.Table.len.Goals as goal

pub returns : goal.returns
returns c = record { value = sym (length-map c.docks.result.now entry_of) ∙ ap length c.docks.ensures.value; bound = c.docks.ensures.bound }
