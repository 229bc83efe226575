use Rattle.std.proofs.Common.{sym, ◌∙◌}
use Rattle.iso_store.proofs.HistoryLemmas.{earlier_same, earlier_equal}
use Rattle.iso_parts_tests.proofs.store.file_goes_back.Goals as goal

pub undo_to-requires : goal.undo_to-requires
undo_to-requires g c =
    let made = c.in_ok-made.made in
    c.in_ok-make-3.ensures made (c.in_ok-make-2.ensures made (earlier_same (sym c.in_ok-made.ensures)))

pub undo_to-requires-2 : goal.undo_to-requires-2
undo_to-requires-2 g c =
    let missing = c.in_ok-missing.missing in
    earlier_equal (c.in_ok-make.ensures missing (earlier_same (sym c.in_ok-missing.ensures))) (c.undo_to.ensures ∙ c.in_ok-made.ensures)
