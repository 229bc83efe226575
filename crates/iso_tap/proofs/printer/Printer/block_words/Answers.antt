use Rattle.std.proofs.Common.{Ok, codes, ap, ◌∙◌}
use Rattle.std.specs.Fmt.{decimal}
use Rattle.iso_model.specs.Texts.{lifecycle_word}
use Rattle.iso_tap.proofs.PrinterLemmas.{prints_as, prints_cut, prints_stopped, prints_then}
use Rattle.iso_tap.proofs.printer.Printer.block_words.Goals as goal

pub returns-in_err-bytes-in-Class : goal.returns-in_err-bytes-in-Class
returns-in_err-bytes-in-Class g c =
    rw c.in-Class.is
    (prints_stopped (lifecycle_word c.in-Class.kind) _ c.from_residual.ensures.0 (prints_cut (codes " ") _ _ (prints_cut (decimal c.in-Class.depth) _ _ c.in_err-bytes-in-Class.ensures)))

pub returns-in_err-number-in-Class : goal.returns-in_err-number-in-Class
returns-in_err-number-in-Class g c =
    rw c.in-Class.is
    (prints_stopped (lifecycle_word c.in-Class.kind) _ c.from_residual-in_err-number-in-Class.ensures.0
    (prints_cut (codes " ") _ _ (prints_then _ c.in_ok-bytes-in-Class.ensures (prints_as c.in_err-number-in-Class.ensures (decimal c.in-Class.depth) (ap decimal c.from.ensures)))))

pub returns-in_err-bytes-in-Class-2 : goal.returns-in_err-bytes-in-Class-2
returns-in_err-bytes-in-Class-2 g c =
    rw c.in-Class.is
    (prints_stopped (lifecycle_word c.in-Class.kind) _ c.from_residual-in_err-bytes-in-Class-2.ensures.0
    (prints_then _ (prints_then (Ok tt) c.in_ok-bytes-in-Class.ensures (prints_as c.in_ok-number-in-Class.ensures (decimal c.in-Class.depth) (ap decimal c.from.ensures)))
    c.in_err-bytes-in-Class-2.ensures))

pub returns-in_ok-bytes-in-Class-2 : goal.returns-in_ok-bytes-in-Class-2
returns-in_ok-bytes-in-Class-2 g c =
    let head = prints_then (Ok tt) (prints_then (Ok tt) c.in_ok-bytes-in-Class.ensures (prints_as c.in_ok-number-in-Class.ensures (decimal c.in-Class.depth) (ap decimal c.from.ensures)))
    c.in_ok-bytes-in-Class-2.ensures in
    rw c.in-Class.is (prints_then _ head (prints_as c.bytes-in-Class-3.ensures (lifecycle_word c.in-Class.kind) (c.as_bytes.ensures.value ∙ c.word.ensures)))
