use Rattle.std.proofs.Common.{drop, map}
use Rattle.iso_explain_settings.specs.Parts.{joined}
use Rattle.iso_explain_settings.specs.Warnings.{line_in}
use Rattle.iso_tap.proofs.PrinterLemmas.{LeftToPrint}
use Rattle.iso_explain_settings.proofs.warnings.write_lines.Given as goal

abbrev pub invariant-loop-line : goal.invariant-loop-line
invariant-loop-line g l = LeftToPrint l.fn.printer l.printer (joined (map line_in l.lines)) (joined (map line_in (drop l.line-index l.lines)))
