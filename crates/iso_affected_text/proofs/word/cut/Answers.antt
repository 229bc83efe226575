use Rattle.std.proofs.Common.{ℕ, Ok, ap, length, map, take, ◌∙◌}
use Rattle.std.proofs.Math.Nat.{min_comm}
use Rattle.std.proofs.lemmas.List.{take_min}
use Rattle.iso_summary.specs.ShownLines.{cut_end, shown_byte}
use Rattle.iso_tap.proofs.PrinterLemmas.{prints_as, prints_stopped, prints_then}
use Rattle.iso_affected_text.proofs.word.cut.Goals as goal

pub returns-in_err-shown : goal.returns-in_err-shown
returns-in_err-shown g c =
    let line = c.args.line.now in
    let few = ap (λ (n : ℕ). take n line) (c.min.ensures ∙ min_comm (length line) 160) ∙ take_min 160 line in
    prints_stopped (cut_end line) _ c.from_residual.ensures.0 (prints_as c.in_err-shown.ensures (map shown_byte (take 160 line)) (ap (map shown_byte) few))

pub returns : goal.returns
returns g c =
    let line = c.args.line.now in
    let few = ap (λ (n : ℕ). take n line) (c.min.ensures ∙ min_comm (length line) 160) ∙ take_min 160 line in
    let first = prints_as {r = Ok tt} c.in_ok-shown.ensures (map shown_byte (take 160 line)) (ap (map shown_byte) few) in
    prints_then _ first (prints_as c.bytes.ensures (cut_end line) c.cut_end.ensures)
