use Rattle.model.proofs.PayloadBounds.{runs_bounded}
use Rattle.model.proofs.TapeReading.{reads_back}
use Rattle.model.proofs.tapes_read_back.Goals as goal

pub returns : goal.returns
returns g c = record { bounded = runs_bounded _; read = reads_back _ }
