use Rattle.std.proofs.Common.{drop, map}
use Rattle.iso_plan.specs.RowView.{tree_of}
use Rattle.iso_summary.specs.Lines.{line}
use Rattle.iso_explain_plan.specs.Parts.{node_part_text}
use Rattle.iso_tap.proofs.PrinterLemmas.{LeftToPrint}
use Rattle.iso_explain_plan.proofs.note.node_line.Given as goal

abbrev pub invariant-loop-part : goal.invariant-loop-part
invariant-loop-part g l =
    LeftToPrint l.fn.printer l.printer (line (map (node_part_text (tree_of l.plan)) l.parts))
    (line (map (node_part_text (tree_of l.plan)) (drop l.part-index l.parts)))
