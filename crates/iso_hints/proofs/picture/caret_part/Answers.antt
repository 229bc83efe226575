use Rattle.std.proofs.Common.{Ok, codes, replicate}
use Rattle.iso_hints.specs.Pictures.{label_text}
use Rattle.iso_tap.proofs.PrinterLemmas.{prints_cut, prints_stopped, prints_then}
use Rattle.iso_hints.proofs.picture.caret_part.Goals as goal

pub returns-in_err-repeated : goal.returns-in_err-repeated
returns-in_err-repeated g c =
    prints_stopped (codes "\n") _ c.from_residual.ensures.0
    (prints_cut (label_text c.args.label.now) _ _ (prints_cut (replicate c.args.carets 94) _ _ c.in_err-repeated.ensures))

pub returns-in_err-repeated-2 : goal.returns-in_err-repeated-2
returns-in_err-repeated-2 g c =
    prints_stopped (codes "\n") _ c.from_residual-in_err-repeated-2.ensures.0
    (prints_cut (label_text c.args.label.now) _ _ (prints_then _ c.in_ok-repeated.ensures c.in_err-repeated-2.ensures))

pub returns-in_err-label_text : goal.returns-in_err-label_text
returns-in_err-label_text g c =
    prints_stopped (codes "\n") _ c.from_residual-in_err-label_text.ensures.0
    (prints_then _ (prints_then (Ok tt) c.in_ok-repeated.ensures c.in_ok-repeated-2.ensures) c.in_err-label_text.ensures)

pub returns : goal.returns
returns g c =
    prints_then _ (prints_then (Ok tt) (prints_then (Ok tt) c.in_ok-repeated.ensures c.in_ok-repeated-2.ensures) c.in_ok-label_text.ensures) c.bytes.ensures
