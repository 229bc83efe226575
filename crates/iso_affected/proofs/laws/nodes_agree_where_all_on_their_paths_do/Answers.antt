use Rattle.iso_affected.proofs.PathAgreement.{all-tell}
use Rattle.iso_affected.specs.Fates.{suites}
use Rattle.iso_affected.proofs.laws.nodes_agree_where_all_on_their_paths_do.Goals as goal

pub returns : goal.returns
returns c = λ before after n m inside e.
    let told = all-tell (suites c.args.old.now before c.args.new.now after) c.nodes_are_a_tree.ensures c.nodes_are_a_tree-2.ensures n inside m e in
    (told.agree, told.all)
