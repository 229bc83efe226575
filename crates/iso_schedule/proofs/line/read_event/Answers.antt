use Rattle.std.proofs.Common.{sym, subst}
use Rattle.iso_schedule.specs.Lines.{Writes, IsEvent, is_event, no_event, too_big}
use Rattle.iso_schedule.specs.Parts.{written}
use Rattle.iso_schedule.proofs.WrittenLines.{scanned-written, written-scanned}
use Rattle.iso_schedule.proofs.line.read_event.Goals as goal

pub returns-in_default : goal.returns-in_default
returns-in_default c = no_event c.requires (λ x w. let s = scanned-written c.args.line.now x w in let n = c.in_default.ensures in cc)

pub returns-in-Some-event : goal.returns-in-Some-event
returns-in-Some-event c =
    let w : Writes c.args.line.now (written c.in-Some.written) = written-scanned c.args.line.now _ (sym c.in-Some.ensures) in
    subst (IsEvent c.args.line.now) (sym c.in-Some-event.ensures.1) (is_event w c.in-Some-event.ensures.0)

pub returns-in-None : goal.returns-in-None
returns-in-None c =
    let w : Writes c.args.line.now (written c.in-Some.written) = written-scanned c.args.line.now _ (sym c.in-Some.ensures) in
    too_big w c.in-None.ensures
