use Rattle.std.proofs.Common.{vec_len}
use Rattle.iso_locks.proofs.UndoLemmas.{Restoring}
use Rattle.iso_locks.proofs.tray.undo_changed.Given as goal

abbrev pub invariant-marks : goal.invariant-marks
invariant-marks l = Restoring l.fn.kept l.initial.values l.marks.items l.values

abbrev pub decreases-marks : goal.decreases-marks
decreases-marks l = vec_len l.marks
