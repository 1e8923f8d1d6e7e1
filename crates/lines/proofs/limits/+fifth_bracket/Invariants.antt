use Rattle.lines.proofs.limits.+fifth_bracket.Given as goal

abbrev pub decreases-fifth_bracket : goal.decreases-fifth_bracket
decreases-fifth_bracket l = l.at
