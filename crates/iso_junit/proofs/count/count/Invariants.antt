use Rattle.std.proofs.Common.{◌≡◌, take}
use Rattle.iso_junit.proofs.SuiteLemmas.{so_far}
use Rattle.iso_junit.specs.Runs.{run_of}
use Rattle.iso_junit.specs.Tallies.{tally}
use Rattle.iso_junit.proofs.count.count.Given as goal

abbrev pub invariant-children : goal.invariant-children
invariant-children l = l.counts ≡ tally (run_of l.run) (so_far (run_of l.run) l.class (take l.child-index l.child-items))
