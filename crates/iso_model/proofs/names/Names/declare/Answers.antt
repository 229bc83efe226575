use Rattle.iso_model.proofs.NameLemmas.{is_first-zero}
use Rattle.iso_model.proofs.names.Names.declare.Goals as goal

pub invariant_of-self : goal.invariant_of-self
invariant_of-self c = is_first-zero _
