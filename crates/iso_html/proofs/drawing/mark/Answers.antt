use Rattle.std.proofs.Common.{ℕ, Ok, ap₂}
use Rattle.iso_html.specs.PictureText.{rect_text, title_of}
use Rattle.iso_junit.specs.Runs.{run_of}
use Rattle.iso_tap.proofs.PrinterLemmas.{prints_as, prints_stopped, prints_then}
use Rattle.iso_html.proofs.drawing.mark.Goals as goal

pub returns-in_err-rect : goal.returns-in_err-rect
returns-in_err-rect g c =
    let m = c.args.mark in
    let same = ap₂ (λ (place wide : ℕ). rect_text m.bar.look m.bar.critical c.args.row place wide) c.at.ensures.place c.width.ensures in
    prints_stopped (title_of (run_of c.args.run.now) m.bar m.what) _ c.from_residual.ensures.0 (prints_as c.in_err-rect.ensures _ same)

pub returns : goal.returns
returns g c =
    let m = c.args.mark in
    let same = ap₂ (λ (place wide : ℕ). rect_text m.bar.look m.bar.critical c.args.row place wide) c.at.ensures.place c.width.ensures in
    prints_then _ (prints_as {r = Ok tt} c.in_ok-rect.ensures _ same) c.title.ensures
