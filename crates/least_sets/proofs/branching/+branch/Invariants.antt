use Rattle.least_sets.proofs.branching.+branch.Given as goal

abbrev pub decreases-branch : goal.decreases-branch
decreases-branch g l = l.free
