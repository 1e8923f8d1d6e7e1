use Rattle.std.proofs.Common.{rules, ◌≡◌, ℕ, slice_get, sym, ap, ◌∙◌}
use Rattle.std.specs.Option.{option_map}
use Rattle.std.proofs.lemmas.Option.{slice_get-map}
use Rattle.std.proofs.lemmas.Iterator.Consumers.{nth_from_yields_List, YieldsList-from_first}
use Rattle.model.specs.Conditions.{places}
use Rattle.reader.specs.Lists.{placed_of}
use Rattle.reader.specs.Walked.{left}
use Rattle.lines.proofs.FirstFaults.{beyond_get, map_through}
use Rattle.lines.proofs.limits.fourth.Goals as goal

pub returns : goal.returns
returns c =
    let xs = placed_of c.args.text.now c.args.vars in
    let found : option_map (λ (x : ℕ × ℕ). x) c.nth.result ≡ slice_get xs 3 = nth_from_yields_List c.nth.result c.nth.new.self 3 c.nth.ensures.ran (YieldsList-from_first (λ x. x) left xs c.vars.ensures) in
    let placed : c.map.result ≡ option_map (λ (x : ℕ × ℕ). x.0) c.nth.result = search rules in
    placed ∙ map_through (λ (x : ℕ × ℕ). x) (λ x. x.0) c.nth.result ∙ ap (option_map (λ (x : ℕ × ℕ). x.0)) found ∙ sym (slice_get-map (λ (x : ℕ × ℕ). x.0) xs 3) ∙ beyond_get 3 (places xs)
