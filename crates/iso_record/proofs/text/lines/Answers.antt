use Rattle.std.proofs.Common.{ap}
use Rattle.std.proofs.lemmas.Result.{err_from_is_err_and}
use Rattle.iso_record.specs.Texts.{schedule_text}
use Rattle.iso_tap.proofs.PrinterLemmas.{drop_next, left_cut, left_next}
use Rattle.iso_record.proofs.text.lines.Goals as goal

pub returns-in_err-line : goal.returns-in_err-line
returns-in_err-line g c =
    let p = err_from_is_err_and c.from_residual.result c.from_residual.ensures.1 in
    rw p.1 (left_cut _ _ p.0 (ap schedule_text (drop_next c.args.events.now c.loop-event.event-index _ c.loop-event-test.true)) c.loop-event.invariant c.in_err-line.ensures)

pub loop-event-preserved : goal.loop-event-preserved
loop-event-preserved g c =
    left_next (ap schedule_text (drop_next c.args.events.now c.loop-event.event-index _ c.loop-event-test.true)) c.loop-event.invariant c.in_ok-line.ensures
