use Rattle.std.proofs.Common.{◌≡◌}
use Rattle.iso_lifecycle.specs.ResultViews.{outcome_in}
use Rattle.iso_plan.specs.KeptNodes.{those_below}
use Rattle.iso_failures.specs.Failures.{is_failure}
use Rattle.iso_failures.proofs.failures.failures.Given as goal

abbrev pub invariant-nodes : goal.invariant-nodes
invariant-nodes l = l.failures.items ≡ those_below (is_failure (outcome_in l.results)) l.node
