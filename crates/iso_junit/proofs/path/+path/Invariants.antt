use Rattle.iso_junit.proofs.path.+path.Given as goal

abbrev pub decreases-path : goal.decreases-path
decreases-path g l = l.node
