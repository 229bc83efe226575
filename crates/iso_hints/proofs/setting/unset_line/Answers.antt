use Rattle.std.proofs.Common.{List, ℕ, ◌++◌, ap, codes}
use Rattle.iso_tap.proofs.PrinterLemmas.{prints_as}
use Rattle.iso_hints.proofs.setting.unset_line.Goals as goal

pub returns : goal.returns
returns g c =
    prints_as c.pieces.ensures (c.args.key.now ++ codes " not set\n") (ap (λ (t : List ℕ). t ++ codes " not set\n") c.as_bytes.ensures.value)
