-- What bytes are read as.
use Rattle.std.proofs.Common.{Bool, List, [], Ok, Err, false, true}
use Rattle.iso_schedule.specs.Schedules.{Reading}
use Rattle.iso_standing.specs.declared.event.Event.{Event}

-- the events of a reading
abbrev pub events_of : Reading → List Event
events_of (Ok events) = events
events_of (Err fault) = []

-- whether a reading is events
abbrev pub has_events : Reading → Bool
has_events (Ok events) = true
has_events (Err fault) = false
