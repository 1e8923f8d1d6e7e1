use Rattle.std.proofs.Common.{arith}
use Rattle.formats.specs.Sizes.{size_of}
use Rattle.formats.specs.Entries.{owners_of, coordinates_of}
use Rattle.formats.proofs.Layouts.{compressed_built, compressed_laid}
use Rattle.formats.proofs.compressed.CompressedFormat.build.Goals as goal

pub returns : goal.returns
returns c =
    let s = size_of c.args.size in
    let ws = c.args.words.now in
    let after = c.sort.new.words in
    record {
      outcome = compressed_built s (owners_of c.args.entries.now) (coordinates_of c.args.entries.now) c.requires ws after (omega arith) (omega arith) c.sort.ensures;
      exact = compressed_laid s (owners_of c.args.entries.now) (coordinates_of c.args.entries.now) c.requires ws after (omega arith) (omega arith) c.sort.ensures;
    }
