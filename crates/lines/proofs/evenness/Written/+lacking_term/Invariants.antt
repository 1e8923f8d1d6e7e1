use Rattle.lines.proofs.evenness.Written.+lacking_term.Given as goal

abbrev pub decreases-lacking_term : goal.decreases-lacking_term
decreases-lacking_term l = l.at
