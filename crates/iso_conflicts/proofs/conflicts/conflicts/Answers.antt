use Rattle.std.proofs.Common.{◌++◌, Ok, List, ℕ, codes, length, ap}
use Rattle.std.specs.Fmt.{decimal}
use Rattle.iso_conflicts.specs.ConflictsText.{keys_lines, last_line}
use Rattle.iso_plan.specs.KeyTable.{keys}
use Rattle.iso_plan.specs.RowView.{tree_of}
use Rattle.iso_tap.proofs.PrinterLemmas.{prints_as, prints_cut, prints_stopped, prints_then}
use Rattle.iso_conflicts.proofs.conflicts.conflicts.Goals as goal

pub returns-in_err-pieces : goal.returns-in_err-pieces
returns-in_err-pieces g c =
    let plan = c.args.plan.now in
    let tree = tree_of plan in
    let header : List ℕ = codes "workers " ++ decimal c.args.workers ++ codes "\n" in
    let first = prints_as c.in_err-pieces.ensures header (ap (λ (n : ℕ). codes "workers " ++ decimal n ++ codes "\n") c.from.ensures) in
    prints_stopped (last_line tree plan.settings) _ c.from_residual.ensures.0 (prints_cut (keys_lines tree (length (keys tree)) 0) _ _ first)

pub returns-in_err-all_keys : goal.returns-in_err-all_keys
returns-in_err-all_keys g c =
    let plan = c.args.plan.now in
    let tree = tree_of plan in
    let header : List ℕ = codes "workers " ++ decimal c.args.workers ++ codes "\n" in
    let first = prints_as c.in_ok-pieces.ensures header (ap (λ (n : ℕ). codes "workers " ++ decimal n ++ codes "\n") c.from.ensures) in
    prints_stopped (last_line tree plan.settings) _ c.from_residual-in_err-all_keys.ensures.0 (prints_then _ first c.in_err-all_keys.ensures)

pub returns : goal.returns
returns g c =
    let header : List ℕ = codes "workers " ++ decimal c.args.workers ++ codes "\n" in
    let first = prints_as c.in_ok-pieces.ensures header (ap (λ (n : ℕ). codes "workers " ++ decimal n ++ codes "\n") c.from.ensures) in
    prints_then _ (prints_then (Ok tt) first c.in_ok-all_keys.ensures) c.last_line.ensures
