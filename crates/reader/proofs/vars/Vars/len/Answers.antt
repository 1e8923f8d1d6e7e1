use Rattle.std.proofs.Common.{sym}
use Rattle.reader.proofs.Having.{length_left}
use Rattle.reader.proofs.vars.Vars.len.Goals as goal

pub returns : goal.returns
returns c = sym (length_left c.args.self.now)
