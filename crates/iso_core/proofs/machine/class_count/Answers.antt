use Rattle.std.proofs.Common.{◌≡◌}
use Rattle.iso_core.proofs.PathCounts.{heads-path}
use Rattle.iso_plan.specs.RowView.{tree_of}
use Rattle.iso_core.proofs.machine.class_count.Goals as goal

pub returns : goal.returns
returns c = heads-path (tree_of c.args.plan.now) c.nodes_are_a_tree.ensures c.args.class c.requires.within c.requires.class c.chain.result.classes.now c.chain.ensures.classes
