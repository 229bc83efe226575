use Rattle.std.proofs.Common.{ℕ, Ok, take, ap, ◌∙◌}
use Rattle.iso_summary.specs.ShownLines.{cut_end, shown_bytes}
use Rattle.iso_tap.proofs.PrinterLemmas.{prints_as, prints_then}
use Rattle.iso_summary.proofs.shown_line.source.Goals as goal

pub returns : goal.returns
returns g c =
    let line = c.args.line.now in
    let first = ap (λ (n : ℕ). take n c.shown_bytes-shown.result) c.min.ensures ∙ c.shown_bytes-shown.ensures in
    prints_then _ (prints_as {r = Ok tt} c.in_ok-bytes.ensures (shown_bytes line) first) (prints_as c.bytes-2.ensures (cut_end line) c.cut_end.ensures)
