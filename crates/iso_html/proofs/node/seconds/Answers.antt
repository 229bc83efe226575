use Rattle.std.proofs.Common.{◌/◌, List, ℕ, [], ◌∷◌, codes, ap}
use Rattle.std.specs.Fmt.{decimal}
use Rattle.iso_junit.specs.Texts.{joined}
use Rattle.iso_tap.proofs.PrinterLemmas.{prints_as}
use Rattle.iso_html.proofs.node.seconds.Goals as goal

pub returns-in-Some : goal.returns-in-Some
returns-in-Some g c =
    rw c.in-Some.is
    (prints_as c.pieces.ensures _
    (ap (λ (d : List ℕ). joined (codes " <small>" ∷ decimal (c.in-Some.time / 1000000) ∷ codes "." ∷ d ∷ codes " s</small>" ∷ [])) c.six_digits.ensures))
