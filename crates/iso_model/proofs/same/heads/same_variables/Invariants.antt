use Rattle.std.proofs.Common.{◌≡◌, take}
use Rattle.iso_model.proofs.same.heads.same_variables.Given as goal

abbrev pub invariant-variables : goal.invariant-variables
invariant-variables l = take l.i l.a ≡ take l.i l.b
