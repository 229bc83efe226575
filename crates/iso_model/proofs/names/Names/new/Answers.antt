use Rattle.iso_model.proofs.NameLemmas.{is_first-zero}
use Rattle.iso_model.proofs.names.Names.new.Goals as goal

pub invariant_of-result : goal.invariant_of-result
invariant_of-result c = is_first-zero c.args.bindings
