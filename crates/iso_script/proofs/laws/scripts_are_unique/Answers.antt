use Rattle.iso_script.proofs.Scripts.{one_placed}
use Rattle.iso_script.proofs.laws.scripts_are_unique.Goals as goal

pub returns : goal.returns
returns c = λ bytes s t a b. (one_placed a.placed b.placed).0
