use Rattle.std.proofs.Common.{◌≡◌, length}
use Rattle.iso_run.proofs.older.read_older_scripts.Given as goal

abbrev pub invariant-loop-name : goal.invariant-loop-name
invariant-loop-name g l = length l.scripts.items ≡ l.name-index
