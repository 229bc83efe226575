use Rattle.iso_plan.proofs.NodeSetLemmas.{empty-set, empty-view}
use Rattle.iso_plan.proofs.node_set.NodeSet.new.Goals as goal

pub invariant_of-result : goal.invariant_of-result
invariant_of-result c = empty-set c.in_ok-new.field-0 c.args.nodes c.in_ok-new.ensures.0 c.in_ok-new.ensures.1

pub returns : goal.returns
returns c = empty-view c.in_ok-new.field-0 c.args.nodes c.in_ok-new.ensures.1
