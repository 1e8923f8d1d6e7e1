use Rattle.std.proofs.Common.{◌≡◌, ℕ, ◌<◌, List, [], ◌∷◌, length, Bor, Some, None, Option, refl, ap, arith}
use Rattle.std.specs.Option.{option_map, unwrap_or}
use Rattle.docks.specs.Pieces.{Cut}
use Rattle.docks.specs.Tables.{lines}
use Rattle.docks.proofs.Cuts.{first_line, less_left, last_line}
use Rattle.docks.proofs.bytes.next_line.Goals as goal

-- the line and the rest, from what was cut, or the whole text and nothing
line_of : (text rest : Bor (List ℕ)) (o : Option (Bor (List ℕ) × Bor (List ℕ))) → rest.now ≡ [] → Cut 10 text.now (option_map (λ p. (p.0.now, p.1.now)) o) → 0 < length text.now
    → (lines text.now ≡ (unwrap_or o (text, rest)).0.now ∷ lines (unwrap_or o (text, rest)).1.now) × (length (unwrap_or o (text, rest)).1.now < length text.now)
line_of text rest None none h some = (last_line text.now rest.now h none some, omega (arith, ap length none, some))
line_of text rest (Some p) none h some = (first_line text.now (p.0.now, p.1.now) h some, less_left text.now (p.0.now, p.1.now) h)

pub returns : goal.returns
returns c =
    let line = line_of c.args.text _ c.cut.result refl c.cut.ensures in rw c.unwrap_or.ensures (record { first = λ some. (line some).0; less = λ some. (line some).1 })
