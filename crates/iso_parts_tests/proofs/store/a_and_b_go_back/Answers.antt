use Rattle.std.proofs.Common.{sym}
use Rattle.iso_store.proofs.HistoryLemmas.{earlier_same}
use Rattle.iso_parts_tests.proofs.store.a_and_b_go_back.Goals as goal

pub undo_to-requires : goal.undo_to-requires
undo_to-requires g c =
    let mark = c.in_ok-mark.mark in
    c.in_ok-make-2.ensures mark (c.in_ok-make.ensures mark (earlier_same (sym c.in_ok-mark.ensures)))
