use Rattle.std.proofs.Common.{◌≡◌, Ok, map}
use Rattle.iso_run.proofs.files.all_scripts.Given as goal

abbrev pub invariant-loop-read : goal.invariant-loop-read
invariant-loop-read l = map Ok l.scripts.items ≡ l.yielded
