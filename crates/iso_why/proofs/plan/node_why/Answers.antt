use Rattle.std.proofs.Common.{Ok}
use Rattle.std.specs.List.{flat_map}
use Rattle.iso_plan.specs.Locks.{locks}
use Rattle.iso_plan.specs.RowView.{tree_of}
use Rattle.iso_tap.proofs.PrinterLemmas.{prints_cut, prints_stopped, prints_then}
use Rattle.iso_why.specs.WhyText.{lock_line, mode_line}
use Rattle.iso_why.proofs.plan.node_why.Goals as goal

pub returns-in_err-line : goal.returns-in_err-line
returns-in_err-line g c =
    let plan = c.args.plan.now in
    let tree = tree_of plan in
    prints_stopped (flat_map (lock_line tree c.args.node) (locks tree c.args.node)) _ c.from_residual.ensures.0
    (prints_cut (mode_line tree plan.settings c.args.node) _ _ c.in_err-line.ensures)

pub returns-in_err-mode_line : goal.returns-in_err-mode_line
returns-in_err-mode_line g c =
    let tree = tree_of c.args.plan.now in
    prints_stopped (flat_map (lock_line tree c.args.node) (locks tree c.args.node)) _ c.from_residual-in_err-mode_line.ensures.0
    (prints_then _ c.in_ok-line.ensures c.in_err-mode_line.ensures)

pub returns : goal.returns
returns g c = prints_then _ (prints_then (Ok tt) c.in_ok-line.ensures c.in_ok-mode_line.ensures) c.lock_lines.ensures
