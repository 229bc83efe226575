-- What mends a schedule.
--
-- explanation of a schedule's fault: The line with the fault and how an event is written, or how
-- large a number or a schedule may be (`fault_text`); the line of an event that is refused
-- (`event_line`) and why it is (`why_notes`, `refused_text`), with the key on which two nodes
-- exclude one another (`first_clash`); what a schedule leaves (`unfinished_notes`).
-- Also in: `ScheduleLines`, `Refusals`, `Reasons`, `RefusedEvents`, `Clashes`, `UnfinishedTexts`.
use Rattle.std.specs.Prelude.{ℕ, ◌+◌, List, [], ◌∷◌, ◌++◌, ◌==◌, codes, cond, length, max, min}
use Rattle.std.specs.Fmt.{decimal}
use Rattle.std.specs.Str.Lines.{lines}
use Rattle.iso_hints.specs.Pictures.{picture}
use Rattle.iso_model.specs.declared.limits.TheConstants.{FILE_BYTES}
use Rattle.iso_schedule.specs.declared.fault.ScheduleFault.{ScheduleFault}
use Rattle.iso_schedule.specs.declared.fault.ScheduleFaultKind.{ScheduleFaultKind}
use Rattle.iso_schedule.specs.declared.fault.ScheduleFaultKind.TheVariants.{BadLine, NumberTooBig, TooLong}
use Rattle.iso_tap.specs.declared.printer.Piece.{Piece}
use Rattle.iso_tap.specs.declared.printer.Piece.TheVariants.{Plain}
use Rattle.iso_explain_plan.specs.Notes.{note}
use Rattle.iso_explain_plan.specs.ScheduleLines.{line_at}

-- a text as the one piece of a label
abbrev pub one_piece : List ℕ → List Piece
one_piece text = Plain (record { ref_ptr = (0, 0); now = text }) ∷ []

-- how many bytes of a line are shown at most
abbrev pub shown_width : List ℕ → ℕ
shown_width line = min (length line) 160

-- a line with carets below it and a label
abbrev pub line_text : ℕ → (line label : List ℕ) → List ℕ
line_text number line label = picture number line 1 (shown_width line) (one_piece label)

-- how an event is written
abbrev pub event_notes : List ℕ
event_notes =
    note (codes "an event is `enter W N`, `step W`, `leave W` or `shut W N`: W is a worker, N a node, both in digits" ∷ [])
    ++ note (codes "spaces stand between its words, and none before or behind them" ∷ [])

-- a number has `digits` digits, and how many it may have
abbrev pub number_note : ℕ → List ℕ
number_note digits =
    note (codes "it has " ∷ decimal digits ∷ codes " digits, and at most " ∷ decimal 9
    ∷ codes " are read, zeros in front among them" ∷ [])

-- how many bytes a schedule may have: of a longer one no more than one above them are met
abbrev pub length_note : List ℕ
length_note = note (codes "at most " ∷ decimal FILE_BYTES ∷ codes " bytes stand in a schedule" ∷ [])

-- the longest word from here on, where `front` bytes stand in front of the first one, and another
-- word has `longest`
abbrev pub longest_from : (longest front : ℕ) → List ℕ → ℕ
longest_from longest front [] = longest
longest_from longest front (b ∷ bs) =
    longest_from (max longest (cond (b == 32) 0 (front + 1))) (cond (b == 32) 0 (front + 1)) bs

-- how many bytes the longest word of a line has
abbrev pub longest_word : List ℕ → ℕ
longest_word line = longest_from 0 0 line

-- of a line that is no event, and of one with a number that is too long
abbrev pub bad_line_text : ℕ → List ℕ → List ℕ
bad_line_text number line = line_text number line (codes "this is no event") ++ event_notes

abbrev pub big_number_text : ℕ → List ℕ → List ℕ
big_number_text number line =
    line_text number line (codes "a number here is too long") ++ number_note (longest_word line)

-- what mends bytes that are no schedule, by the kind of their fault and its line
abbrev pub kind_text : ScheduleFaultKind → ℕ → List ℕ → List ℕ
kind_text BadLine number schedule = bad_line_text number (line_at number (lines schedule))
kind_text NumberTooBig number schedule = big_number_text number (line_at number (lines schedule))
kind_text TooLong number schedule = length_note

abbrev pub fault_text : ScheduleFault → List ℕ → List ℕ
fault_text fault schedule = kind_text fault.kind fault.line schedule
