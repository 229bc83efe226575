use Rattle.iso_tap.proofs.BufferLemmas.{prints_flushed, prints_unflushed}
use Rattle.iso_tap.proofs.buffered.BufferedPrinter.report.Goals as goal

pub returns-in_err-levels : goal.returns-in_err-levels
returns-in_err-levels g c = prints_unflushed _ c.from_residual.ensures.0 c.requires.empty c.in_err-levels.ensures

pub returns : goal.returns
returns g c = prints_flushed _ c.requires.empty c.in_ok-levels.ensures c.flush.ensures.prints
