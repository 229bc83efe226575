use Rattle.std.proofs.Common.{◌-◌, length}
use Rattle.iso_html.specs.Sections.{keys_text}
use Rattle.iso_junit.specs.Runs.{run_of}
use Rattle.iso_plan.specs.KeyTable.{keys}
use Rattle.iso_plan.specs.RowView.{tree_of}
use Rattle.iso_tap.proofs.PrinterLemmas.{LeftToPrint}
use Rattle.iso_html.proofs.section.keys.Given as goal

abbrev pub invariant-keys : goal.invariant-keys
invariant-keys g l =
    LeftToPrint l.fn.printer l.printer (keys_text (run_of l.run) l.measured (length (keys (tree_of l.run.plan.now))) 0)
    (keys_text (run_of l.run) l.measured (length (keys (tree_of l.run.plan.now)) - l.key) l.key)
