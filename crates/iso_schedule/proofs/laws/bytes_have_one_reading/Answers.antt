use Rattle.iso_schedule.proofs.Readings.{reading, bytes_read}
use Rattle.iso_schedule.proofs.Unique.{read-once}
use Rattle.iso_schedule.proofs.laws.bytes_have_one_reading.Goals as goal

pub returns-clause-some : goal.returns-clause-some
returns-clause-some c = λ bytes. (reading bytes, bytes_read bytes)

pub returns-clause-no_other : goal.returns-clause-no_other
returns-clause-no_other c = read-once
