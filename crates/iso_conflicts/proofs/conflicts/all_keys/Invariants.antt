use Rattle.std.proofs.Common.{◌-◌, length}
use Rattle.iso_conflicts.specs.ConflictsText.{keys_lines}
use Rattle.iso_plan.specs.KeyTable.{keys}
use Rattle.iso_plan.specs.RowView.{tree_of}
use Rattle.iso_tap.proofs.PrinterLemmas.{LeftToPrint}
use Rattle.iso_conflicts.proofs.conflicts.all_keys.Given as goal

abbrev pub invariant-keys : goal.invariant-keys
invariant-keys g l =
    LeftToPrint l.fn.printer l.printer (keys_lines (tree_of l.plan) (length (keys (tree_of l.plan))) 0)
    (keys_lines (tree_of l.plan) (length (keys (tree_of l.plan)) - l.key) l.key)
