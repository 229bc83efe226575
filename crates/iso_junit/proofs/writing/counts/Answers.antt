use Rattle.iso_junit.specs.Times.{time_attribute}
use Rattle.iso_tap.proofs.PrinterLemmas.{prints_stopped, prints_then}
use Rattle.iso_junit.proofs.writing.counts.Goals as goal

pub returns-in_err-numbers : goal.returns-in_err-numbers
returns-in_err-numbers g c = prints_stopped (time_attribute c.args.tally.time) _ c.from_residual.ensures.0 c.in_err-numbers.ensures

pub returns : goal.returns
returns g c = prints_then _ c.in_ok-numbers.ensures c.time_attribute.ensures
