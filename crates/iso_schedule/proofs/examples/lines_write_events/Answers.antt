use Rattle.std.proofs.Common.{codes}
use Rattle.iso_schedule.proofs.Readings.{bytes_read}
use Rattle.iso_schedule.proofs.examples.lines_write_events.Goals as goal

pub returns-clause-each : goal.returns-clause-each
returns-clause-each c = bytes_read (codes "enter 2 1\nstep 2\nleave 2\nshut 2 1\n")

pub returns-clause-none : goal.returns-clause-none
returns-clause-none c = bytes_read (codes "")
