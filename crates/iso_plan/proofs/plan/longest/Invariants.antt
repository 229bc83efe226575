use Rattle.std.proofs.Common.{◌≡◌, drop, max}
use Rattle.iso_plan.proofs.DepthLemmas.{counts}
use Rattle.iso_plan.specs.NodeChains.{largest}
use Rattle.iso_plan.proofs.plan.longest.Given as goal

-- what is found so far and what is to come are no larger together than all
abbrev pub invariant-nodes : goal.invariant-nodes
invariant-nodes l = max l.longest (largest (counts (drop l.chain-index l.chains))) ≡ largest (counts l.chains)
