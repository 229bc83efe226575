use Rattle.std.proofs.Common.{List, ℕ, Ok, ap, map}
use Rattle.iso_html.specs.Quotes.{shown_text}
use Rattle.iso_junit.specs.Escapes.{escaped}
use Rattle.iso_summary.specs.ShownLines.{cut_end, shown_byte, shown_bytes}
use Rattle.iso_tap.proofs.PrinterLemmas.{prints_as, prints_stopped, prints_then}
use Rattle.iso_html.proofs.quote.shown.Goals as goal

pub returns-in_err-bytes_shown : goal.returns-in_err-bytes_shown
returns-in_err-bytes_shown g c =
    let text = c.args.text.now in
    let first = prints_as c.in_err-bytes_shown.ensures (escaped (shown_bytes text)) (ap (λ (bs : List ℕ). escaped (map shown_byte bs)) c.shown_part.ensures) in
    prints_stopped (cut_end text) _ c.from_residual.ensures.0 first

pub returns : goal.returns
returns g c =
    let text = c.args.text.now in
    let first = prints_as {r = Ok tt} c.in_ok-bytes_shown.ensures (escaped (shown_bytes text)) (ap (λ (bs : List ℕ). escaped (map shown_byte bs)) c.shown_part.ensures) in
    prints_then _ first (prints_as c.bytes.ensures (cut_end text) c.cut_end.ensures)
