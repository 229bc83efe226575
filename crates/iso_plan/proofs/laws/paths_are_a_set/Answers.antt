use Rattle.iso_plan.proofs.SelectionLemmas.{paths-alone}
use Rattle.iso_plan.proofs.laws.paths_are_a_set.Goals as goal

pub returns : goal.returns
returns c = paths-alone
