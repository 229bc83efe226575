use Rattle.std.proofs.Common.{codes}
use Rattle.iso_schedule.proofs.Readings.{bytes_read}
use Rattle.iso_schedule.proofs.examples.numbers_have_up_to_nine_digits.Goals as goal

pub returns-clause-nine : goal.returns-clause-nine
returns-clause-nine c = bytes_read (codes "enter 999999999 000000001")

pub returns-clause-worker : goal.returns-clause-worker
returns-clause-worker c = bytes_read (codes "leave 0000000000")

pub returns-clause-node : goal.returns-clause-node
returns-clause-node c = bytes_read (codes "shut 0 1000000000")

pub returns-clause-sign : goal.returns-clause-sign
returns-clause-sign c = bytes_read (codes "step +1")

pub returns-clause-letter : goal.returns-clause-letter
returns-clause-letter c = bytes_read (codes "step 1a")
