use Rattle.std.proofs.Common.{Ok, ◌==◌}
use Rattle.iso_html.specs.Quotes.{end_text, shown_text}
use Rattle.iso_tap.proofs.PrinterLemmas.{prints_as, prints_cut, prints_stopped, prints_then}
use Rattle.iso_html.proofs.quote.one.Goals as goal

pub returns-in_err-number : goal.returns-in_err-number
returns-in_err-number g c =
    let l = c.args.line.now in
    prints_stopped (end_text (l.number == c.args.ended)) _ c.from_residual.ensures.0 (prints_cut (shown_text l.text.now) _ _ c.in_err-number.ensures)

pub returns-in_err-shown : goal.returns-in_err-shown
returns-in_err-shown g c =
    let l = c.args.line.now in
    prints_stopped (end_text (l.number == c.args.ended)) _ c.from_residual-in_err-shown.ensures.0 (prints_then _ c.in_ok-number.ensures c.in_err-shown.ensures)

pub returns : goal.returns
returns g c = prints_then _ (prints_then (Ok tt) c.in_ok-number.ensures c.in_ok-shown.ensures) (prints_as c.bytes.ensures _ c.end.ensures)
