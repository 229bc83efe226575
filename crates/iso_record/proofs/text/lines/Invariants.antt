use Rattle.std.proofs.Common.{drop}
use Rattle.iso_record.specs.Texts.{schedule_text}
use Rattle.iso_tap.proofs.PrinterLemmas.{LeftToPrint}
use Rattle.iso_record.proofs.text.lines.Given as goal

abbrev pub invariant-loop-event : goal.invariant-loop-event
invariant-loop-event g l = LeftToPrint l.fn.printer l.printer (schedule_text l.events) (schedule_text (drop l.event-index l.events))
