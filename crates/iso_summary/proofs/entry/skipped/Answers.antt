use Rattle.std.proofs.Common.{Ok, []}
use Rattle.iso_summary.specs.Entries.{place_line}
use Rattle.iso_summary.specs.Lines.{line}
use Rattle.iso_summary.specs.Views.{located_of}
use Rattle.iso_tap.proofs.PrinterLemmas.{prints_cut, prints_stopped, prints_then}
use Rattle.iso_summary.proofs.entry.skipped.Goals as goal

pub returns-in_err-line_with_path : goal.returns-in_err-line_with_path
returns-in_err-line_with_path g c =
    prints_stopped (line []) _ c.from_residual.ensures.0 (prints_cut (place_line (located_of c.args.at.now) c.args.reason.now) _ _ c.in_err-line_with_path.ensures)

pub returns-in_err-place : goal.returns-in_err-place
returns-in_err-place g c =
    prints_stopped (line []) _ c.from_residual-in_err-place.ensures.0 (prints_then _ c.in_ok-line_with_path.ensures c.in_err-place.ensures)

pub returns : goal.returns
returns g c = prints_then _ (prints_then (Ok tt) c.in_ok-line_with_path.ensures c.in_ok-place.ensures) c.bytes.ensures
