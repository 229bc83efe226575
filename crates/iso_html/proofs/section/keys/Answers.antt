use Rattle.std.proofs.Common.{◌<◌, length, arith}
use Rattle.std.proofs.lemmas.Result.{err_from_is_err_and}
use Rattle.iso_html.proofs.RangeLemmas.{texts-from}
use Rattle.iso_html.specs.Sections.{one_key}
use Rattle.iso_junit.specs.Runs.{run_of}
use Rattle.iso_plan.specs.KeyTable.{keys}
use Rattle.iso_plan.specs.RowView.{tree_of}
use Rattle.iso_tap.proofs.PrinterLemmas.{left_cut, left_next}
use Rattle.iso_html.proofs.section.keys.Goals as goal

pub returns-in_err-one_key : goal.returns-in_err-one_key
returns-in_err-one_key g c =
    let count = length (keys (tree_of c.args.run.now.plan.now)) in
    let here : c.keys.key < count = omega arith in
    let next = texts-from (one_key (run_of c.args.run.now) c.args.measured.now) count c.keys.key here in
    let p = err_from_is_err_and c.from_residual.result c.from_residual.ensures.1 in
    rw p.1 (left_cut _ _ p.0 next c.keys.invariant c.in_err-one_key.ensures)

pub keys-preserved : goal.keys-preserved
keys-preserved g c =
    let count = length (keys (tree_of c.args.run.now.plan.now)) in
    let here : c.keys.key < count = omega arith in
    left_next (texts-from (one_key (run_of c.args.run.now) c.args.measured.now) count c.keys.key here) c.keys.invariant c.in_ok-one_key.ensures
