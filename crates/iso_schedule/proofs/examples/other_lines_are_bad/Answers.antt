use Rattle.std.proofs.Common.{codes}
use Rattle.iso_schedule.proofs.Readings.{bytes_read}
use Rattle.iso_schedule.proofs.examples.other_lines_are_bad.Goals as goal

pub returns-clause-word : goal.returns-clause-word
returns-clause-word c = bytes_read (codes "Step 0")

pub returns-clause-no_worker : goal.returns-clause-no_worker
returns-clause-no_worker c = bytes_read (codes "step")

pub returns-clause-no_node : goal.returns-clause-no_node
returns-clause-no_node c = bytes_read (codes "enter 0")

pub returns-clause-node_of_leave : goal.returns-clause-node_of_leave
returns-clause-node_of_leave c = bytes_read (codes "leave 0 1")

pub returns-clause-third : goal.returns-clause-third
returns-clause-third c = bytes_read (codes "shut 0 1 2")
