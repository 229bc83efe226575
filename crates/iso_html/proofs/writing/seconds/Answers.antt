use Rattle.std.proofs.Common.{◌/◌, List, ℕ, [], ◌∷◌, codes, ap}
use Rattle.std.specs.Fmt.{decimal}
use Rattle.iso_junit.specs.Texts.{joined}
use Rattle.iso_tap.proofs.PrinterLemmas.{prints_as}
use Rattle.iso_html.proofs.writing.seconds.Goals as goal

pub returns : goal.returns
returns g c =
    prints_as c.pieces.ensures _
    (ap (λ (d : List ℕ). joined (decimal (c.args.micros / 1000000) ∷ codes "." ∷ d ∷ codes " s" ∷ [])) c.six_digits.ensures)
