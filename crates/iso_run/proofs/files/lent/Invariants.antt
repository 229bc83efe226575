use Rattle.std.proofs.Common.{◌≡◌, map, take}
use Rattle.iso_run.specs.Suites.{texts}
use Rattle.iso_run.proofs.files.lent.Given as goal

abbrev pub invariant-loop-script : goal.invariant-loop-script
invariant-loop-script l = texts l.lent.items ≡ map (λ v. v.items) (take l.script-index l.scripts)
