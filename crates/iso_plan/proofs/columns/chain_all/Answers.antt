use Rattle.iso_plan.proofs.columns.chain_all.Goals as goal

pub returns : goal.returns
returns c = record { children_are = c.in_ok-children.ensures; chains_are = c.in_ok-chains.ensures; rights_are = c.in_ok-rights.ensures }
