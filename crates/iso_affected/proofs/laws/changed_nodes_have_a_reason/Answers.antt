use Rattle.iso_affected.proofs.ReasonLemmas.{has-reason}
use Rattle.iso_affected.specs.Fates.{suites}
use Rattle.iso_affected.proofs.laws.changed_nodes_have_a_reason.Goals as goal

pub returns : goal.returns
returns c = λ before after fates told are differ. has-reason (suites c.args.old.now before c.args.new.now after) c.nodes_are_a_tree.ensures c.nodes_are_a_tree-2.ensures fates told are differ
