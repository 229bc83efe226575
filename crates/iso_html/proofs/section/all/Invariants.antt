use Rattle.std.proofs.Common.{drop, map}
use Rattle.iso_html.specs.Sections.{section_text}
use Rattle.iso_junit.specs.Runs.{run_of}
use Rattle.iso_junit.specs.Texts.{joined}
use Rattle.iso_tap.proofs.PrinterLemmas.{LeftToPrint}
use Rattle.iso_html.proofs.section.all.Given as goal

abbrev pub invariant-loop-section : goal.invariant-loop-section
invariant-loop-section g l = LeftToPrint l.fn.printer l.printer (joined (map (section_text (run_of l.run) l.measured) l.sections))
    (joined (map (section_text (run_of l.run) l.measured) (drop l.section-index l.sections)))
