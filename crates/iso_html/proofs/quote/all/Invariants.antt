use Rattle.std.proofs.Common.{drop, flat_map, map}
use Rattle.iso_html.specs.Quotes.{line_of, line_text}
use Rattle.iso_tap.proofs.PrinterLemmas.{LeftToPrint}
use Rattle.iso_html.proofs.quote.all.Given as goal

abbrev pub invariant-loop-line : goal.invariant-loop-line
invariant-loop-line g l =
    LeftToPrint l.fn.printer l.printer (flat_map (line_text l.ended) (map line_of l.lines)) (flat_map (line_text l.ended) (map line_of (drop l.line-index l.lines)))
