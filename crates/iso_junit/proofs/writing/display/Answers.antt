use Rattle.std.proofs.Common.{◌++◌, List, ℕ, ap, codes}
use Rattle.iso_junit.specs.Escapes.{escaped}
use Rattle.iso_tap.proofs.PrinterLemmas.{prints_as, prints_stopped, prints_then}
use Rattle.iso_junit.proofs.writing.display.Goals as goal

pub returns-in_err-bytes : goal.returns-in_err-bytes
returns-in_err-bytes g c = prints_stopped (escaped c.args.title.now ++ codes "\n") _ c.from_residual.ensures.0 c.in_err-bytes.ensures

pub returns : goal.returns
returns g c =
    prints_then _ c.in_ok-bytes.ensures
    (prints_as c.line.ensures (escaped c.args.title.now ++ codes "\n") (ap (λ (t : List ℕ). escaped t ++ codes "\n") c.as_bytes.ensures.value))
