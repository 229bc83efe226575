-- The text of a schedule: a line for each event.
--
-- text of a schedule: A line for each event, with its word, its worker and its node (`event_line`,
-- `schedule_text`); that its numbers have at most nine digits (`IsShort`).
use Rattle.std.specs.Prelude.{ℕ, ◌<◌, ◌^◌, List, ◌++◌, codes, flat_map}
use Rattle.std.specs.Fmt.{decimal}
use Rattle.iso_standing.specs.declared.event.Event.{Event}
use Rattle.iso_standing.specs.declared.event.Event.TheVariants.{Enter, Step, Leave, Shut}

-- an event as a line with its line feed
abbrev pub event_line : Event → List ℕ
event_line (Enter worker node) =
    codes "enter " ++ decimal worker ++ codes " " ++ decimal node ++ codes "\n"
event_line (Step worker) = codes "step " ++ decimal worker ++ codes "\n"
event_line (Leave worker) = codes "leave " ++ decimal worker ++ codes "\n"
event_line (Shut worker node) =
    codes "shut " ++ decimal worker ++ codes " " ++ decimal node ++ codes "\n"

-- the lines of events, in their order
abbrev pub schedule_text : List Event → List ℕ
schedule_text es = flat_map event_line es

-- the worker and the node of an event have at most nine digits
abbrev pub IsShort : Event → Type 0
IsShort (Enter worker node) = (worker < 10 ^ 9) × (node < 10 ^ 9)
IsShort (Step worker) = worker < 10 ^ 9
IsShort (Leave worker) = worker < 10 ^ 9
IsShort (Shut worker node) = (worker < 10 ^ 9) × (node < 10 ^ 9)
