use Rattle.std.proofs.Common.{◌≡◌, ◌==◌, false, length}
use Rattle.iso_tap.proofs.PrinterLemmas.{prints_then}
use Rattle.iso_hints.proofs.picture.label_text.Goals as goal

pub returns : goal.returns
returns g c =
    let some : (length c.args.label.now == 0) ≡ false = cc in
    rw some (prints_then _ c.in_ok-bytes.ensures c.pieces.ensures)
