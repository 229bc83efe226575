use Rattle.std.proofs.Common.{option_map}
use Rattle.iso_explain.specs.Explanations.{explanation, notes}
use Rattle.iso_tap.proofs.PrinterLemmas.{prints_stopped, prints_then}
use Rattle.iso_explain.proofs.explanation.write_at.Goals as goal

pub returns-in_err-picture : goal.returns-in_err-picture
unfolding explanation
returns-in_err-picture g c bytes at =
    prints_stopped (notes bytes c.args.explained.now (option_map (λ w. w.now) c.args.meant)) _ c.from_residual.ensures.0 (c.in_err-picture.ensures bytes at.line)

pub returns : goal.returns
unfolding explanation
returns g c bytes at = prints_then _ (c.in_ok-picture.ensures bytes at.line) (c.notes.ensures bytes at.place)
