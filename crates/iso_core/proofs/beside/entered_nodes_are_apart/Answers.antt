use Rattle.iso_core.proofs.Apart.{apart-entered, apart-leaving}
use Rattle.iso_core.proofs.beside.entered_nodes_are_apart.Goals as goal

pub returns : goal.returns
returns c =
    let plan = c.args.plan.now in
    let t = c.nodes_are_a_tree.ensures in
    record {
      enter = λ world v s w n reached same of next waits. apart-entered plan t world v same s of w n next;
      leave = λ world v s n b reached same of here. apart-leaving plan t world v same s of n b reached here;
    }
