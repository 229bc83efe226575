use Rattle.std.proofs.Common.{◌≡◌}
use Rattle.iso_junit.specs.Cases.{is_case}
use Rattle.iso_junit.specs.Runs.{run_of}
use Rattle.iso_junit.specs.Tallies.{tally}
use Rattle.iso_plan.specs.KeptNodes.{those_below}
use Rattle.iso_junit.proofs.count.count_all.Given as goal

abbrev pub invariant-nodes : goal.invariant-nodes
invariant-nodes l = l.counts ≡ tally (run_of l.run) (those_below (is_case (run_of l.run)) l.node)
