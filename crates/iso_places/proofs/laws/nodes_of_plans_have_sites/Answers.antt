use Rattle.std.proofs.Common.{map}
use Rattle.iso_model.specs.ScriptView.{script_of}
use Rattle.iso_places.proofs.FirstLemmas.{all-known, kept-known}
use Rattle.iso_plan.proofs.TreeLemmas.{tree-is}
use Rattle.iso_plan.specs.Tree.{tree}
use Rattle.iso_places.proofs.laws.nodes_of_plans_have_sites.Goals as goal

pub returns-clause-all : goal.returns-clause-all
returns-clause-all c = λ sites each. all-known (tree (map script_of c.args.scripts.now)) sites each

pub returns-clause-kept : goal.returns-clause-kept
returns-clause-kept c = λ sites paths each. kept-known (tree (map script_of c.args.scripts.now)) sites each (tree-is (map script_of c.args.scripts.now)) paths
