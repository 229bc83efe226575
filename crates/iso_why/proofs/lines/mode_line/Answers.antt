use Rattle.std.proofs.Common.{◌++◌, Ok, List, ℕ, codes, ap}
use Rattle.iso_plan.specs.RowView.{tree_of}
use Rattle.iso_tap.proofs.PrinterLemmas.{prints_as, prints_cut, prints_stopped, prints_then}
use Rattle.iso_why.specs.ModeReasons.{reason}
use Rattle.iso_why.specs.WhyText.{why_text}
use Rattle.iso_why.proofs.lines.mode_line.Goals as goal

pub returns-in_err-bytes : goal.returns-in_err-bytes
returns-in_err-bytes g c =
    let plan = c.args.plan.now in
    let text = why_text (tree_of plan) c.args.node (reason (tree_of plan) plan.settings c.args.node) in
    prints_stopped (codes "\n") _ c.from_residual.ensures.0 (prints_cut text _ _ c.in_err-bytes.ensures)

pub returns-in_err-reason : goal.returns-in_err-reason
returns-in_err-reason g c =
    let plan = c.args.plan.now in
    let tree = tree_of plan in
    let text = why_text tree c.args.node (reason tree plan.settings c.args.node) in
    let told = prints_as c.in_err-reason.ensures text (ap (why_text tree c.args.node) c.why.ensures.why) in
    prints_stopped (codes "\n") _ c.from_residual-in_err-reason.ensures.0 (prints_then _ c.in_ok-bytes.ensures told)

pub returns : goal.returns
returns g c =
    let plan = c.args.plan.now in
    let tree = tree_of plan in
    let text = why_text tree c.args.node (reason tree plan.settings c.args.node) in
    let told = prints_as c.in_ok-reason.ensures text (ap (why_text tree c.args.node) c.why.ensures.why) in
    prints_then _ (prints_then (Ok tt) c.in_ok-bytes.ensures told) c.bytes-2.ensures
