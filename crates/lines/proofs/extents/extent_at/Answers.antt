use Rattle.std.proofs.Common.{rules, tests, ◌≡◌, ℕ, Bool, eqb, Bor, ap, ◌∙◌}
use Rattle.std.specs.List.{find, zip}
use Rattle.std.specs.Option.{option_map}
use Rattle.std.proofs.lemmas.Iterator.{YieldsList-from_slice, YieldsList-from_zip}
use Rattle.std.proofs.lemmas.Iterator.Search.{find_from_yields_List}
use Rattle.std.proofs.lemmas.Iterator.Consumers.{YieldsList-at, YieldsList-from_first}
use Rattle.model.specs.Conditions.{extents_of}
use Rattle.reader.specs.Lists.{placed_of}
use Rattle.reader.specs.Walked.{left}
use Rattle.lines.specs.Given.{slots_of}
use Rattle.lines.proofs.FirstFaults.{map_through}
use Rattle.lines.proofs.Sizing.{extent_by_find}
use Rattle.lines.proofs.extents.extent_at.Goals as goal

pub returns : goal.returns
returns c =
    let xs = placed_of c.args.text.now c.args.access.vars in
    let es = extents_of (slots_of c.args.slots.now c.args.access.slot) in
    let test : (ℕ × ℕ) × ℕ → Bool = λ p. eqb p.0.1 c.args.var in
    let bare : (ℕ × ℕ) × Bor ℕ → (ℕ × ℕ) × ℕ = λ p. (p.0, p.1.now) in
    let found : option_map bare c.find.result ≡ find test (zip xs es) =
    find_from_yields_List test c.find.new.self _ c.find.result c.find.ensures.ran
    (YieldsList-from_zip (YieldsList-at c.zip.ensures.first (YieldsList-from_first (λ x. x) left xs c.vars.ensures)) (YieldsList-from_slice es (cc)))
    (λ x b q k. search (rules, tests)) in
    let shown : c.map.result ≡ option_map (λ (p : (ℕ × ℕ) × Bor ℕ). p.1.now) c.find.result = search rules in
    shown ∙ map_through bare (λ (p : (ℕ × ℕ) × ℕ). p.1) c.find.result ∙ ap (option_map (λ (p : (ℕ × ℕ) × ℕ). p.1)) found ∙ extent_by_find c.args.var xs es
