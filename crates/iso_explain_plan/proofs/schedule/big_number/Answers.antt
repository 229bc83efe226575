use Rattle.std.proofs.Common.{ap}
use Rattle.iso_tap.proofs.PrinterLemmas.{prints_as, prints_stopped, prints_then}
use Rattle.iso_explain_plan.specs.Schedules.{longest_word, number_note}
use Rattle.iso_explain_plan.proofs.schedule.big_number.Goals as goal

pub returns-in_err-line_text : goal.returns-in_err-line_text
returns-in_err-line_text g c = prints_stopped (number_note (longest_word c.args.line.now)) _ c.from_residual.ensures.0 c.in_err-line_text.ensures

pub returns : goal.returns
returns g c =
    prints_then _ c.in_ok-line_text.ensures
    (prints_as c.number_note.ensures (number_note (longest_word c.args.line.now)) (ap number_note c.longest_word.ensures))
