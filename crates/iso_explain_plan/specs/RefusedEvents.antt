-- What mends a schedule of which an event is refused.
use Rattle.std.specs.Prelude.{◌≡◌, ◌≤◌, ℕ, List, [], ◌++◌, Option, None, Some, Ok, codes, length, slice_get}
use Rattle.std.specs.Str.Lines.{lines}
use Rattle.iso_model.specs.declared.limits.TheConstants.{FILE_BYTES}
use Rattle.iso_plan.specs.Tree.{Row}
use Rattle.iso_schedule.specs.Schedules.{AreRead}
use Rattle.iso_standing.specs.declared.event.Event.{Event}
use Rattle.iso_standing.specs.declared.refused.Refused.{Refused}
use Rattle.iso_explain_plan.specs.Refusals.{why_notes}
use Rattle.iso_explain_plan.specs.ScheduleLines.{event_line}
use Rattle.iso_explain_plan.specs.Schedules.{line_text}

-- the line of an event, and why it is refused
abbrev pub why_text : ℕ → List ℕ → Event → Refused → List Row → List ℕ
why_text number line event refused tree =
    line_text number line (codes "this event is refused") ++ why_notes tree event refused

-- the same of an event and a line that may not be there
abbrev pub at_line_text : ℕ → List ℕ → Option Event → Refused → List Row → List ℕ
at_line_text number line None refused tree = []
at_line_text number line (Some event) refused tree = why_text number line event refused tree

abbrev pub refused_text : Option (ℕ × List ℕ) → Option Event → Refused → List Row → List ℕ
refused_text None event refused tree = []
refused_text (Some line) event refused tree = at_line_text line.0 line.1 event refused tree

-- a text tells why the event with this number is refused of the events that a schedule is read as
abbrev pub IsRefusedText : ℕ → Refused → List ℕ → List Row → List ℕ → Type 0
IsRefusedText index refused schedule tree text =
    (events : List Event) → length schedule ≤ FILE_BYTES → AreRead schedule (Ok events)
    → text ≡ refused_text (event_line index 1 (lines schedule))
    (slice_get events index) refused tree
