use Rattle.iso_core.proofs.Isolating.{cores-unaffected}
use Rattle.iso_core.proofs.machine.agreeing_nodes_have_equal_outcomes.Goals as goal

pub returns : goal.returns
returns c = cores-unaffected _ _ c.is_isolated.ensures c.is_isolated-2.ensures
