use Rattle.std.proofs.Common.{codes}
use Rattle.iso_schedule.proofs.Readings.{bytes_read}
use Rattle.iso_schedule.proofs.examples.carriage_returns_stand_before_line_feeds.Goals as goal

pub returns-clause-dropped : goal.returns-clause-dropped
returns-clause-dropped c = bytes_read (codes "step 0\r\n\r\nleave 0\r\n")

pub returns-clause-two : goal.returns-clause-two
returns-clause-two c = bytes_read (codes "step 0\r\r\n")

pub returns-clause-inside : goal.returns-clause-inside
returns-clause-inside c = bytes_read (codes "step\r0\n")

pub returns-clause-at_the_end : goal.returns-clause-at_the_end
returns-clause-at_the_end c = bytes_read (codes "step 0\r")
