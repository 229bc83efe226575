use Rattle.iso_plan.proofs.LawLemmas.{takes-only}
use Rattle.iso_plan.specs.RowView.{tree_of}
use Rattle.iso_plan.proofs.laws.locking_nodes_alone_take_keys.Goals as goal

pub returns : goal.returns
returns c = takes-only (tree_of c.args.plan.now)
