use Rattle.formats.specs.Sizes.{size_of}
use Rattle.formats.specs.Entries.{owners_of, coordinates_of}
use Rattle.formats.specs.Denses.{dense_built}
use Rattle.formats.proofs.dense.DenseFormat.build.Goals as goal

pub returns : goal.returns
returns c = record {
  outcome = dense_built (size_of c.args._size) (owners_of c.args._entries.now) (coordinates_of c.args._entries.now) c.args._words.now c.requires;
}
