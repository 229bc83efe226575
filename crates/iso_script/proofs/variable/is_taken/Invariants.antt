use Rattle.std.proofs.Common.{◌≡◌, drop}
use Rattle.iso_script.specs.Variables.{is_in_any}
use Rattle.iso_script.proofs.variable.is_taken.Given as goal

abbrev pub invariant-sets : goal.invariant-sets
invariant-sets l = is_in_any (drop l.names-index l.sets) l.name ≡ is_in_any l.sets l.name
