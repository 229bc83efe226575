use Rattle.std.proofs.Common.{ap, ◌∙◌}
use Rattle.std.specs.Fmt.{decimal}
use Rattle.iso_tap.proofs.PrinterLemmas.{prints_as, prints_then}
use Rattle.iso_durations.proofs.line.counted.Goals as goal

pub returns : goal.returns
returns g c =
    prints_then _ (prints_as c.in_ok-number.ensures (decimal c.args.count) (ap decimal c.from.ensures)) (prints_as c.bytes.ensures _ (c.as_bytes.ensures.value ∙ c.word_for.ensures))
