use Rattle.std.proofs.Common.{Ok, ap, codes}
use Rattle.std.specs.Fmt.{decimal}
use Rattle.iso_hints.specs.Settings.{workers_word}
use Rattle.iso_tap.specs.Pieces.{pieces_text}
use Rattle.iso_tap.proofs.PrinterLemmas.{prints_as, prints_cut, prints_stopped, prints_then}
use Rattle.iso_hints.proofs.setting.write_workers.Goals as goal

pub returns-in_err-number : goal.returns-in_err-number
returns-in_err-number g c =
    let number = prints_as c.in_err-number.ensures (decimal c.args.count) (ap decimal c.from.ensures) in
    prints_stopped (codes "\n") _ c.from_residual.ensures.0
    (prints_cut (pieces_text c.args.why.now) _ _ (prints_cut (workers_word c.args.count) _ _ number))

pub returns-in_err-bytes : goal.returns-in_err-bytes
returns-in_err-bytes g c =
    let number = prints_as {r = Ok tt} c.in_ok-number.ensures (decimal c.args.count) (ap decimal c.from.ensures) in
    let word = prints_as c.in_err-bytes.ensures (workers_word c.args.count) c.workers_word.ensures in
    prints_stopped (codes "\n") _ c.from_residual-in_err-bytes.ensures.0
    (prints_cut (pieces_text c.args.why.now) _ _ (prints_then _ number word))

pub returns-in_err-pieces : goal.returns-in_err-pieces
returns-in_err-pieces g c =
    let number = prints_as {r = Ok tt} c.in_ok-number.ensures (decimal c.args.count) (ap decimal c.from.ensures) in
    let word = prints_as {r = Ok tt} c.in_ok-bytes.ensures (workers_word c.args.count) c.workers_word.ensures in
    prints_stopped (codes "\n") _ c.from_residual-in_err-pieces.ensures.0
    (prints_then _ (prints_then (Ok tt) number word) c.in_err-pieces.ensures)

pub returns : goal.returns
returns g c =
    let number = prints_as {r = Ok tt} c.in_ok-number.ensures (decimal c.args.count) (ap decimal c.from.ensures) in
    let word = prints_as {r = Ok tt} c.in_ok-bytes.ensures (workers_word c.args.count) c.workers_word.ensures in
    prints_then _ (prints_then (Ok tt) (prints_then (Ok tt) number word) c.in_ok-pieces.ensures) c.bytes-2.ensures
