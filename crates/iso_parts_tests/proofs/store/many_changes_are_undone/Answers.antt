use Rattle.std.proofs.Common.{sym}
use Rattle.iso_store.proofs.HistoryLemmas.{earlier_same}
use Rattle.iso_parts_tests.proofs.store.many_changes_are_undone.Goals as goal

pub undo_to-requires : goal.undo_to-requires
undo_to-requires g c = c.in_ok-set_many.ensures c.in_ok-mark.mark (earlier_same (sym c.in_ok-mark.ensures))
