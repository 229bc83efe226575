use Rattle.std.proofs.Common.{Ok, codes, flat_map, map, sym, ◌∙◌}
use Rattle.iso_html.proofs.QuoteLemmas.{quote-some}
use Rattle.iso_html.specs.Quotes.{line_of, line_text}
use Rattle.iso_tap.proofs.PrinterLemmas.{prints_as, prints_cut, prints_stopped, prints_then}
use Rattle.iso_html.proofs.quote.quote.Goals as goal

pub returns-in_err-bytes : goal.returns-in_err-bytes
returns-in_err-bytes g c =
    let some = quote-some c.args.ended c.args.lines.now (sym c.is_empty.ensures ∙ c.if-is_empty.false) in
    let rest = flat_map (line_text c.args.ended) (map line_of c.args.lines.now) in
    prints_as (prints_stopped (codes "</pre>\n") _ c.from_residual.ensures.0 (prints_cut rest _ _ c.in_err-bytes.ensures)) _ (sym some)

pub returns-in_err-all : goal.returns-in_err-all
returns-in_err-all g c =
    let some = quote-some c.args.ended c.args.lines.now (sym c.is_empty.ensures ∙ c.if-is_empty.false) in
    prints_as (prints_stopped (codes "</pre>\n") _ c.from_residual-in_err-all.ensures.0 (prints_then _ c.in_ok-bytes.ensures c.in_err-all.ensures)) _ (sym some)

pub returns : goal.returns
returns g c =
    let some = quote-some c.args.ended c.args.lines.now (sym c.is_empty.ensures ∙ c.if-is_empty.false) in
    prints_as (prints_then _ (prints_then (Ok tt) c.in_ok-bytes.ensures c.in_ok-all.ensures) c.bytes-2.ensures) _ (sym some)
