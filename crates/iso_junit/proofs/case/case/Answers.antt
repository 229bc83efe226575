use Rattle.iso_junit.proofs.SuiteLemmas.{head-same}
use Rattle.iso_junit.specs.Documents.{case_rest}
use Rattle.iso_junit.specs.Runs.{run_of}
use Rattle.iso_plan.specs.PathTexts.{path_text}
use Rattle.iso_plan.specs.RowView.{tree_of}
use Rattle.iso_tap.proofs.PrinterLemmas.{prints_as, prints_stopped, prints_then}
use Rattle.iso_junit.proofs.case.case.Goals as goal

pub returns-in_err-head : goal.returns-in_err-head
returns-in_err-head g c =
    let head = prints_as c.in_err-head.ensures _ (head-same (path_text (tree_of c.args.run.now.plan.now) c.args.class) c.case_name-name.ensures c.place-place.ensures c.time.ensures) in
    prints_stopped (case_rest (run_of c.args.run.now) c.args.node) _ c.from_residual.ensures.0 head

pub returns : goal.returns
returns g c =
    let head = prints_as c.in_ok-head.ensures _ (head-same (path_text (tree_of c.args.run.now.plan.now) c.args.class) c.case_name-name.ensures c.place-place.ensures c.time.ensures) in
    prints_then _ head c.rest.ensures
