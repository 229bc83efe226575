use Rattle.std.proofs.Common.{sym}
use Rattle.iso_store.proofs.HistoryLemmas.{earlier_same}
use Rattle.iso_parts_tests.proofs.store.refused_changes_go_back.Goals as goal

pub undo_to-requires : goal.undo_to-requires
undo_to-requires g c =
    let mark = c.in_ok-mark.mark in
    c.changes_or_stays-2.ensures mark (c.changes_or_stays.ensures mark (earlier_same (sym c.in_ok-mark.ensures)))
