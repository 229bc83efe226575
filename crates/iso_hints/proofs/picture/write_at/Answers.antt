use Rattle.std.proofs.Common.{◌≡◌, ℕ, ◌-◌, Ok, ap, ap₂, arith, length}
use Rattle.std.specs.Fmt.{decimal}
use Rattle.iso_hints.specs.Pictures.{caret_blanks, caret_count, caret_part, first_shown, margin, source_part}
use Rattle.iso_tap.proofs.PrinterLemmas.{prints_as, prints_cut, prints_stopped, prints_then}
use Rattle.iso_hints.proofs.picture.write_at.Goals as goal

pub overflow_sub-digits : goal.overflow_sub-digits
overflow_sub-digits g c =
    let counted = c.in_ok-number.ensures.counted in
    let took = c.in_ok-number.ensures.wrote.took.count in
    let before = c.written-before.ensures in
    let after = c.written.ensures in
    omega arith

pub returns-in_err-bytes : goal.returns-in_err-bytes
returns-in_err-bytes g c =
    let line = c.args.line.now in
    let place = c.args.place in
    let digits = length (decimal c.args.number) in
    prints_stopped (caret_part (caret_blanks (length line) place) (caret_count (length line) place c.args.width) c.args.label.now) _ c.from_residual.ensures.0
    (prints_cut (margin digits) _ _ (prints_cut (source_part (first_shown (length line) place) line) _ _ (prints_cut (decimal c.args.number) _ _ c.in_err-bytes.ensures)))

pub returns-in_err-number : goal.returns-in_err-number
returns-in_err-number g c =
    let line = c.args.line.now in
    let place = c.args.place in
    let digits = length (decimal c.args.number) in
    let number = prints_as c.in_err-number.ensures (decimal c.args.number) (ap decimal c.from.ensures) in
    prints_stopped (caret_part (caret_blanks (length line) place) (caret_count (length line) place c.args.width) c.args.label.now) _
    c.from_residual-in_err-number.ensures.0
    (prints_cut (margin digits) _ _ (prints_cut (source_part (first_shown (length line) place) line) _ _ (prints_then _ c.in_ok-bytes.ensures number)))

pub returns-in_err-source_part : goal.returns-in_err-source_part
returns-in_err-source_part g c =
    let line = c.args.line.now in
    let place = c.args.place in
    let number = prints_as {r = Ok tt} c.in_ok-number.ensures (decimal c.args.number) (ap decimal c.from.ensures) in
    let source = prints_as c.in_err-source_part.ensures (source_part (first_shown (length line) place) line)
    (ap (λ (f : ℕ). source_part f line) c.first_shown.ensures.value) in
    prints_stopped (caret_part (caret_blanks (length line) place) (caret_count (length line) place c.args.width) c.args.label.now) _
    c.from_residual-in_err-source_part.ensures.0
    (prints_cut (margin (length (decimal c.args.number))) _ _ (prints_then _ (prints_then (Ok tt) c.in_ok-bytes.ensures number) source))

pub returns-in_err-margin : goal.returns-in_err-margin
returns-in_err-margin g c =
    let line = c.args.line.now in
    let place = c.args.place in
    let counted = c.in_ok-number.ensures.counted in
    let took = c.in_ok-number.ensures.wrote.took.count in
    let same : decimal c.from.result ≡ decimal c.args.number = ap decimal c.from.ensures in
    let size : length (decimal c.from.result) ≡ length (decimal c.args.number) = ap length same in
    let digits : c.written.result - c.written-before.result ≡ length (decimal c.args.number) =
    let before = c.written-before.ensures in
    let after = c.written.ensures in
    omega arith in
    let number = prints_as {r = Ok tt} c.in_ok-number.ensures (decimal c.args.number) same in
    let source = prints_as {r = Ok tt} c.in_ok-source_part.ensures (source_part (first_shown (length line) place) line)
    (ap (λ (f : ℕ). source_part f line) c.first_shown.ensures.value) in
    let blanks = prints_as c.in_err-margin.ensures (margin (length (decimal c.args.number))) (ap margin digits) in
    prints_stopped (caret_part (caret_blanks (length line) place) (caret_count (length line) place c.args.width) c.args.label.now) _
    c.from_residual-in_err-margin.ensures.0
    (prints_then _ (prints_then (Ok tt) (prints_then (Ok tt) c.in_ok-bytes.ensures number) source) blanks)

pub returns : goal.returns
returns g c =
    let line = c.args.line.now in
    let place = c.args.place in
    let counted = c.in_ok-number.ensures.counted in
    let took = c.in_ok-number.ensures.wrote.took.count in
    let same : decimal c.from.result ≡ decimal c.args.number = ap decimal c.from.ensures in
    let size : length (decimal c.from.result) ≡ length (decimal c.args.number) = ap length same in
    let digits : c.written.result - c.written-before.result ≡ length (decimal c.args.number) =
    let before = c.written-before.ensures in
    let after = c.written.ensures in
    omega arith in
    let number = prints_as {r = Ok tt} c.in_ok-number.ensures (decimal c.args.number) same in
    let source = prints_as {r = Ok tt} c.in_ok-source_part.ensures (source_part (first_shown (length line) place) line)
    (ap (λ (f : ℕ). source_part f line) c.first_shown.ensures.value) in
    let blanks = prints_as {r = Ok tt} c.in_ok-margin.ensures (margin (length (decimal c.args.number))) (ap margin digits) in
    let carets = prints_as c.caret_part.ensures (caret_part (caret_blanks (length line) place) (caret_count (length line) place c.args.width) c.args.label.now)
    (ap₂ (λ (b k : ℕ). caret_part b k c.args.label.now) c.caret_blanks.ensures c.caret_count.ensures) in
    prints_then _ (prints_then (Ok tt) (prints_then (Ok tt) (prints_then (Ok tt) c.in_ok-bytes.ensures number) source) blanks) carets
