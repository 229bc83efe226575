use Rattle.iso_script.proofs.Variables.{one_variables}
use Rattle.iso_script.proofs.laws.variables_are_unique.Goals as goal

pub returns : goal.returns
returns c = one_variables
