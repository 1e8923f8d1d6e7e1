-- A walk over the commands of a graph. Assumes nothing.
use Rattle.std.specs.Prelude.{◌≡◌, ℕ, ◌≤◌, length, Option, MatchOption}
use Rattle.std.specs.Option.{option_map}
use Rattle.listings.specs.Listings.{StandsAt}
use Rattle.listings.specs.declared.Placed.{Placed}
use Rattle.listings.specs.declared.walk.Commands.{Commands}

-- A step gives the command that stands at the place of the walk, with that place, and goes behind it; or there is none, and the walk stays.
abbrev pub Walks : Commands → Option (ℕ × Placed) → Commands → Type 0
Walks c r d =
    (d.bytes.now ≡ c.bytes.now) × StandsAt c.bytes.now c.at (option_map (λ p. p.1) r)
    × MatchOption r (d.at ≡ c.at) (λ p. (p.0 ≡ c.at) × (d.at ≡ p.1.next) × (p.1.next ≤ length c.bytes.now))
