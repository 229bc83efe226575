use Rattle.std.proofs.Common.{ℕ, ◌*◌, Ok, ap}
use Rattle.iso_html.specs.PictureText.{group_title, rect_text}
use Rattle.iso_junit.specs.Runs.{run_of}
use Rattle.iso_tap.proofs.PrinterLemmas.{prints_as, prints_stopped, prints_then}
use Rattle.iso_html.proofs.drawing.group.Goals as goal

pub returns-in_err-rect : goal.returns-in_err-rect
returns-in_err-rect g c =
    let same = ap (λ (p : ℕ). rect_text c.args.group.look c.args.group.critical c.args.row (p * 100) 100) c.from.ensures in
    prints_stopped (group_title (run_of c.args.run.now) c.args.group) _ c.from_residual.ensures.0 (prints_as c.in_err-rect.ensures _ same)

pub returns : goal.returns
returns g c =
    let same = ap (λ (p : ℕ). rect_text c.args.group.look c.args.group.critical c.args.row (p * 100) 100) c.from.ensures in
    prints_then _ (prints_as {r = Ok tt} c.in_ok-rect.ensures _ same) c.group_title.ensures
