use Rattle.lines.proofs.accesses.+collect.Given as goal

abbrev pub decreases-collect : goal.decreases-collect
decreases-collect l = l.at
