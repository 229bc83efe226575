use Rattle.std.proofs.Common.{◌≡◌, length}
use Rattle.iso_run.proofs.files.read_each_script.Given as goal

abbrev pub invariant-loop-name : goal.invariant-loop-name
invariant-loop-name g l = length l.reads.items ≡ l.name-index
