use Rattle.std.proofs.Common.{◌≡◌, ◌≤◌, ◌+◌, length}
use Rattle.std.specs.Str.Lines.{lines}
use Rattle.iso_explain_plan.specs.ScheduleLines.{line_at}
use Rattle.iso_explain_plan.proofs.line.line_at.Given as goal

abbrev pub invariant-lines : goal.invariant-lines
invariant-lines l = line_at l.number (lines l.schedule) ≡ line_at l.left (lines l.rest)

abbrev pub decreases-lines : goal.decreases-lines
decreases-lines l = length l.rest
