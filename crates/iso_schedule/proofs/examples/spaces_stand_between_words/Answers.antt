use Rattle.std.proofs.Common.{codes}
use Rattle.iso_schedule.proofs.Readings.{bytes_read}
use Rattle.iso_schedule.proofs.examples.spaces_stand_between_words.Goals as goal

pub returns-clause-more : goal.returns-clause-more
returns-clause-more c = bytes_read (codes "enter  0   1")

pub returns-clause-before : goal.returns-clause-before
returns-clause-before c = bytes_read (codes " step 0")

pub returns-clause-after : goal.returns-clause-after
returns-clause-after c = bytes_read (codes "step 0 \n")

pub returns-clause-none : goal.returns-clause-none
returns-clause-none c = bytes_read (codes "step0")

pub returns-clause-alone : goal.returns-clause-alone
returns-clause-alone c = bytes_read (codes "  ")

pub returns-clause-tab : goal.returns-clause-tab
returns-clause-tab c = bytes_read (codes "step\t0")
