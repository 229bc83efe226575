use Rattle.std.proofs.Common.{ap}
use Rattle.std.proofs.lemmas.Str.Ascii.{trim_ascii_start_is}
use Rattle.iso_affected_text.specs.Words.{source_text}
use Rattle.iso_summary.specs.ShownLines.{shown_source}
use Rattle.iso_tap.proofs.PrinterLemmas.{prints_as}
use Rattle.iso_affected_text.proofs.word.source.Goals as goal

pub returns : goal.returns
returns g c =
    prints_as c.cut.ensures (source_text c.args.line.now) (ap shown_source (trim_ascii_start_is c.args.line.now c.trim_ascii_start.result.now c.trim_ascii_start.ensures.value))
