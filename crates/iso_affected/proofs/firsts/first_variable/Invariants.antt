use Rattle.std.proofs.Common.{◌≡◌, take}
use Rattle.iso_affected.proofs.firsts.first_variable.Given as goal

abbrev pub invariant-variables : goal.invariant-variables
invariant-variables l = take l.place l.was ≡ take l.place l.now
