use Rattle.std.proofs.Common.{List, ℕ, ◌++◌, ap, codes}
use Rattle.iso_tap.proofs.PrinterLemmas.{prints_as}
use Rattle.iso_hints.proofs.setting.origin_text.Goals as goal

pub returns-in-Unused : goal.returns-in-Unused
returns-in-Unused g c =
    rw c.in-Unused.is
    (prints_as c.pieces.ensures (codes " (file, not used: " ++ c.in-Unused.why.now ++ codes ")")
    (ap (λ (t : List ℕ). codes " (file, not used: " ++ t ++ codes ")") c.as_bytes.ensures.value))
