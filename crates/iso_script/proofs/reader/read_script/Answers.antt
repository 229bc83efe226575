use Rattle.iso_script.proofs.Scripts.{answers_only, found}
use Rattle.iso_script.proofs.reader.read_script.Goals as goal

pub returns-clause-found : goal.returns-clause-found
returns-clause-found c = found _ _ _ _ c.read.ensures.read

pub returns-clause-only : goal.returns-clause-only
returns-clause-only c = answers_only _ _ _ _ c.read.ensures.read
