use Rattle.std.proofs.Common.{List, ap, flat_map, refl}
use Rattle.std.proofs.lemmas.List.{at_drop_all}
use Rattle.std.proofs.lemmas.Result.{err_from_is_err_and}
use Rattle.iso_durations.specs.Durations.{text_of}
use Rattle.iso_durations.specs.Entries.{entry_line}
use Rattle.iso_durations.specs.declared.durations.Timed.{Timed}
use Rattle.iso_plan.specs.RowView.{tree_of}
use Rattle.iso_tap.proofs.PrinterLemmas.{drop_next, left_cut, left_end, left_next, left_whole, prints_stopped}
use Rattle.iso_durations.proofs.text.text.Goals as goal

pub returns-in_err-head : goal.returns-in_err-head
returns-in_err-head g c =
    let tree = tree_of c.args.plan.now in
    prints_stopped (flat_map (entry_line tree) c.args.listed.now) _ c.from_residual.ensures.0 c.in_err-head.ensures

pub listed-init : goal.listed-init
listed-init g c =
    let tree = tree_of c.args.plan.now in
    left_next refl (left_whole _ (text_of tree c.args.listed.now c.args.all)) c.in_ok-head.ensures

pub listed-preserved : goal.listed-preserved
listed-preserved g c =
    let tree = tree_of c.args.plan.now in
    let next = ap (λ (ts : List Timed). flat_map (entry_line tree) ts) (drop_next c.args.listed.now c.listed.timed-index _ c.listed-test.true) in
    left_next next c.listed.invariant c.in_ok-entry.ensures

pub returns-in_err-entry : goal.returns-in_err-entry
returns-in_err-entry g c =
    let tree = tree_of c.args.plan.now in
    let p = err_from_is_err_and c.from_residual-in_err-entry.result c.from_residual-in_err-entry.ensures.1 in
    let next = ap (λ (ts : List Timed). flat_map (entry_line tree) ts) (drop_next c.args.listed.now c.listed.timed-index _ c.listed-test.true) in
    rw p.1 (left_cut _ _ p.0 next c.listed.invariant c.in_err-entry.ensures)

pub returns : goal.returns
returns g c =
    let tree = tree_of c.args.plan.now in
    left_end (rw (at_drop_all (λ (ts : List Timed). flat_map (entry_line tree) ts) c.args.listed.now c.listed.timed-index c.listed-test.false) at c.listed.invariant)
