use Rattle.iso_suites.proofs.HistoryLeaves.{goes-on-by-leave}
use Rattle.iso_suites.proofs.laws.histories_go_on_by_leaves.Goals as goal

pub returns : goal.returns
returns c = λ world workers h w is allowed. goes-on-by-leave c.args.plan.now world workers h w c.nodes_are_a_tree.ensures is allowed
