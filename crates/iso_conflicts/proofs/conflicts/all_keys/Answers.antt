use Rattle.std.proofs.Common.{◌<◌, length, ap, arith}
use Rattle.std.proofs.lemmas.Result.{err_from_is_err_and}
use Rattle.std.specs.List.{flat_map}
use Rattle.iso_conflicts.proofs.RangeLemmas.{range-next}
use Rattle.iso_conflicts.specs.ConflictsText.{key_lines}
use Rattle.iso_plan.specs.KeyTable.{keys}
use Rattle.iso_plan.specs.RowView.{tree_of}
use Rattle.iso_tap.proofs.PrinterLemmas.{left_cut, left_next}
use Rattle.iso_conflicts.proofs.conflicts.all_keys.Goals as goal

pub returns-in_err-key_lines : goal.returns-in_err-key_lines
returns-in_err-key_lines g c =
    let tree = tree_of c.args.plan.now in
    let count = length (keys tree) in
    let here : c.keys.key < count = omega arith in
    let next = ap (flat_map (key_lines tree)) (range-next count c.keys.key here) in
    let p = err_from_is_err_and c.from_residual.result c.from_residual.ensures.1 in
    rw p.1 (left_cut _ _ p.0 next c.keys.invariant c.in_err-key_lines.ensures)

pub keys-preserved : goal.keys-preserved
keys-preserved g c =
    let tree = tree_of c.args.plan.now in
    let count = length (keys tree) in
    let here : c.keys.key < count = omega arith in
    left_next (ap (flat_map (key_lines tree)) (range-next count c.keys.key here)) c.keys.invariant c.in_ok-key_lines.ensures
