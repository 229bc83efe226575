use Rattle.std.proofs.Common.{arith}
use Rattle.iso_script.proofs.Scripts.{has_fault, is_reading}
use Rattle.iso_script.proofs.reader.read.Goals as goal

pub returns-clause-read : goal.returns-clause-read
returns-clause-read c = is_reading _ _ _ _ _ (omega arith) c.new-parser.ensures c.script.ensures.read

pub returns-clause-fault : goal.returns-clause-fault
returns-clause-fault c = has_fault _ _ _ _ _ (omega arith) c.new-parser.ensures c.script.ensures.read c.script.ensures.begins
