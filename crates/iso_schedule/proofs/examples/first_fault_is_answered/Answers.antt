use Rattle.std.proofs.Common.{codes}
use Rattle.iso_schedule.proofs.Readings.{bytes_read}
use Rattle.iso_schedule.proofs.examples.first_fault_is_answered.Goals as goal

pub returns-clause-lines : goal.returns-clause-lines
returns-clause-lines c = bytes_read (codes "step 0\nstop 0\nleave 0000000000\n")

pub returns-clause-number : goal.returns-clause-number
returns-clause-number c = bytes_read (codes "leave 0000000000\nstop 0\n")

pub returns-clause-bad_first : goal.returns-clause-bad_first
returns-clause-bad_first c = bytes_read (codes "step 0000000000 1")
