use Rattle.std.proofs.Common.{refl}
use Rattle.results.proofs.Filling.{padding, keys_alone}
use Rattle.results.proofs.places.key_places.Goals as goal

pub returns : goal.returns
returns g c = record { places = refl; padding = padding g.V.Semiring.algebra 3; alone = keys_alone g.V.Semiring.algebra }
