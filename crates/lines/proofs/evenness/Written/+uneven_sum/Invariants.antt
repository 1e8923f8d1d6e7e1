use Rattle.lines.proofs.evenness.Written.+uneven_sum.Given as goal

abbrev pub decreases-uneven_sum : goal.decreases-uneven_sum
decreases-uneven_sum l = l.at
