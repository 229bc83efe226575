use Rattle.std.proofs.Common.{ℕ, ap}
use Rattle.iso_hints.specs.Pictures.{picture, picture_at}
use Rattle.iso_tap.proofs.PrinterLemmas.{prints_as}
use Rattle.iso_hints.proofs.picture.write_caret.Goals as goal

pub returns : goal.returns
returns g c =
    prints_as c.write_at.ensures (picture c.args.number c.args.line.now c.args.column c.args.width c.args.label.now)
    (ap (λ (p : ℕ). picture_at c.args.number c.args.line.now p c.args.width c.args.label.now) c.place_of.ensures.value)
