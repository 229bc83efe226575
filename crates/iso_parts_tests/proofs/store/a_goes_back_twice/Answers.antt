use Rattle.std.proofs.Common.{sym, ◌∙◌}
use Rattle.iso_store.proofs.HistoryLemmas.{earlier_same, earlier_equal}
use Rattle.iso_parts_tests.proofs.store.a_goes_back_twice.Goals as goal

pub undo_to-requires : goal.undo_to-requires
undo_to-requires g c = c.in_ok-make-2.ensures c.in_ok-inner.inner (earlier_same (sym c.in_ok-inner.ensures))

pub undo_to-requires-2 : goal.undo_to-requires-2
undo_to-requires-2 g c =
    let outer = c.in_ok-outer.outer in
    let before = c.in_ok-make.ensures outer (earlier_same (sym c.in_ok-outer.ensures)) in
    c.in_ok-make-3.ensures outer (earlier_equal before (c.undo_to.ensures ∙ c.in_ok-inner.ensures))
