use Rattle.std.proofs.Common.{drop, flat_map}
use Rattle.iso_html.specs.PictureText.{shape_text}
use Rattle.iso_junit.specs.Runs.{run_of}
use Rattle.iso_tap.proofs.PrinterLemmas.{LeftToPrint}
use Rattle.iso_html.proofs.drawing.shapes.Given as goal

abbrev pub invariant-loop-piece : goal.invariant-loop-piece
invariant-loop-piece g l = LeftToPrint l.fn.printer l.printer (flat_map (shape_text (run_of l.run) l.span) l.shapes) (flat_map (shape_text (run_of l.run) l.span) (drop l.piece-index l.shapes))
