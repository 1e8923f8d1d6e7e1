use Rattle.std.proofs.Common.{rules, ◌≡◌, Bor, map, ◌∙◌}
use Rattle.std.specs.Option.{option_map}
use Rattle.lines.specs.declared.accesses.Access.{Access}
use Rattle.lines.proofs.FirstFaults.{beyond_get, got_place}
use Rattle.lines.proofs.accesses.ninth.Goals as goal

pub returns : goal.returns
returns c =
    let xs = c.args.accesses.now in
    let placed : c.map.result ≡ option_map (λ (a : Bor Access). a.now.place) c.get.result = search rules in
    placed ∙ got_place xs 8 c.get.result c.get.ensures.lookup ∙ beyond_get 8 (map (λ (e : Access). e.place) xs)
