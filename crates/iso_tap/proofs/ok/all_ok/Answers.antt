use Rattle.iso_tap.proofs.ok.all_ok.Goals as goal

pub children_are_ok-requires-clause-within : goal.children_are_ok-requires-clause-within
children_are_ok-requires-clause-within c = c.nodes_are_a_tree.ensures.rooted
