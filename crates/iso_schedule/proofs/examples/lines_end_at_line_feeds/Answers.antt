use Rattle.std.proofs.Common.{codes}
use Rattle.iso_schedule.proofs.Readings.{bytes_read}
use Rattle.iso_schedule.proofs.examples.lines_end_at_line_feeds.Goals as goal

pub returns-clause-last : goal.returns-clause-last
returns-clause-last c = bytes_read (codes "step 0\nleave 0")

pub returns-clause-empty : goal.returns-clause-empty
returns-clause-empty c = bytes_read (codes "\n\nstep 0\n\n")

pub returns-clause-counted : goal.returns-clause-counted
returns-clause-counted c = bytes_read (codes "\n\nstop 0")
