use Rattle.std.proofs.Common.{◌≡◌, ◌≤◌, ◌+◌, length}
use Rattle.std.specs.Str.Lines.{lines}
use Rattle.iso_explain_plan.specs.ScheduleLines.{event_line}
use Rattle.iso_explain_plan.proofs.line.event_line.Given as goal

abbrev pub invariant-lines : goal.invariant-lines
invariant-lines l = record {
  same : event_line l.event 1 (lines l.schedule) ≡ event_line l.left l.number (lines l.rest);
  few : l.number + length l.rest ≤ length l.schedule + 1;
}

abbrev pub decreases-lines : goal.decreases-lines
decreases-lines l = length l.rest
