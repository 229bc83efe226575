use Rattle.std.proofs.Common.{map}
use Rattle.iso_model.specs.ScriptView.{script_of}
use Rattle.iso_places.proofs.FirstLemmas.{own_at}
use Rattle.iso_plan.specs.Tree.{tree}
use Rattle.iso_places.proofs.laws.nodes_have_their_own_sites.Goals as goal

pub returns : goal.returns
returns c = λ sites n each. own_at (tree (map script_of c.args.scripts.now)) sites each n
