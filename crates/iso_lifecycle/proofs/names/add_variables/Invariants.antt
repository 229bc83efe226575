use Rattle.std.proofs.Common.{◌≡◌, ◌++◌, drop}
use Rattle.iso_model.specs.Names.{at_literals}
use Rattle.iso_lifecycle.proofs.names.add_variables.Given as goal

abbrev pub invariant-variables : goal.invariant-variables
invariant-variables l = l.names ++ at_literals l.sort (drop l.variable-index l.variables) ≡ l.fn.names ++ at_literals l.sort l.variables
