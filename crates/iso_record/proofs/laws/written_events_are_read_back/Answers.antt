use Rattle.iso_record.proofs.TextLemmas.{events_read}
use Rattle.iso_schedule.specs.Schedules.{as_events, too_long}
use Rattle.iso_record.proofs.laws.written_events_are_read_back.Goals as goal

pub returns-clause-read : goal.returns-clause-read
returns-clause-read c es short fits = as_events fits (events_read es short)

pub returns-clause-too_long : goal.returns-clause-too_long
returns-clause-too_long c es over = too_long over
