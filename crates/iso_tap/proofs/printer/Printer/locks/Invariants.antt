use Rattle.std.proofs.Common.{drop}
use denote.Text.{Utf8}
use denote.Shadow.{shadow}
use Rattle.iso_plan.specs.KeyTable.{keys}
use Rattle.iso_plan.specs.Locks.{locks}
use Rattle.iso_plan.specs.RowView.{tree_of}
use Rattle.iso_tap.specs.PlanText.{locks_text}
use Rattle.iso_tap.proofs.PlanLemmas.{separated}
use Rattle.iso_tap.proofs.PrinterLemmas.{LeftToPrint}
use Rattle.iso_tap.proofs.printer.Printer.locks.Given as goal

abbrev pub invariant-locks : goal.invariant-locks
invariant-locks g l =
    shadow (Utf8 l.separator)
    × LeftToPrint l.fn.self l.self (locks_text (keys (tree_of l.plan)) (locks (tree_of l.plan) l.node))
    (separated (keys (tree_of l.plan)) l.separator (drop l.lock-index (locks (tree_of l.plan) l.node)))
