use Rattle.iso_script_statements.proofs.WantedLemmas.{unmet_after}
use Rattle.iso_script_statements.proofs.parser.Parser.wanted_before.Goals as goal

pub returns : goal.returns
returns c = λ ps none symbol. rw c.after.ensures (unmet_after _ _ ps none symbol)
