use Rattle.iso_summary.specs.Entries.{hint_lines}
use Rattle.iso_summary.specs.Views.{located_of}
use Rattle.iso_tap.proofs.PrinterLemmas.{prints_stopped, prints_then}
use Rattle.iso_summary.proofs.entry.source_lines.Goals as goal

pub returns-in_err-source : goal.returns-in_err-source
returns-in_err-source g c = prints_stopped (hint_lines (located_of c.args.at.now)) _ c.from_residual.ensures.0 c.in_err-source.ensures

pub returns : goal.returns
returns g c = prints_then _ c.in_ok-source.ensures c.hints.ensures
