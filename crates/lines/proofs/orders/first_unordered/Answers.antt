use Rattle.std.proofs.Common.{rules, tests, ◌≡◌, Bool, Bor, ap, ◌∙◌}
use Rattle.std.specs.List.{find}
use Rattle.std.specs.Option.{option_map}
use Rattle.std.proofs.lemmas.Iterator.{YieldsList-from_slice}
use Rattle.std.proofs.lemmas.Iterator.Search.{find_from_yields_List}
use Rattle.lines.specs.declared.accesses.Access.{Access}
use Rattle.lines.proofs.FirstFaults.{map_through, fault_by_find}
use Rattle.reader.specs.Lists.{vars_of}
use Rattle.lines.specs.Checks.{unordered}
use Rattle.lines.proofs.orders.first_unordered.Goals as goal

pub returns : goal.returns
returns c =
    let test : Access → Bool = λ e. (unordered (vars_of c.args.text.now c.args.order) c.args.text.now e).1 in
    let found : option_map (λ (a : Bor Access). a.now) c.find.result ≡ find test c.args.accesses.now = find_from_yields_List test c.find.new.self _ c.find.result c.find.ensures.ran (YieldsList-from_slice c.args.accesses.now cc) (λ x b q k. search (rules, tests)) in
    let placed : c.map.result ≡ option_map (λ (a : Bor Access). a.now.place) c.find.result = search rules in
    placed ∙ map_through (λ (a : Bor Access). a.now) (λ (e : Access). e.place) c.find.result ∙ ap (option_map (λ (e : Access). e.place)) found ∙ fault_by_find (λ (e : Access). e.place) test c.args.accesses.now
