use Rattle.std.proofs.Common.{◌-◌, ◌≤◌, length}
use Rattle.iso_locks.proofs.UndoLemmas.{Restarting}
use Rattle.iso_locks.proofs.tray.undo_unchanged.Given as goal

abbrev pub invariant-changed : goal.invariant-changed
invariant-changed l = record {
  within : l.at ≤ length l.values;
  restarting : Restarting l.kept l.initial.values l.values l.at;
}

abbrev pub decreases-changed : goal.decreases-changed
decreases-changed l = length l.values - l.at
