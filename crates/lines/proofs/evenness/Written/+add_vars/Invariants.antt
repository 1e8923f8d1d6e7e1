use Rattle.lines.proofs.evenness.Written.+add_vars.Given as goal

abbrev pub decreases-add_vars : goal.decreases-add_vars
decreases-add_vars l = l.at
