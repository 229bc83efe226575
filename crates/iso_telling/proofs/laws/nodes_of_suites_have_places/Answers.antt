use Rattle.std.proofs.Common.{map}
use Rattle.iso_model.specs.ScriptView.{script_of}
use Rattle.iso_places.specs.Sites.{all_sites}
use Rattle.iso_telling.proofs.WrittenLemmas.{were-read}
use Rattle.iso_telling.proofs.laws.nodes_of_suites_have_places.Goals as goal

pub returns-clause-all : goal.returns-clause-all
returns-clause-all c texts places are stranger =
    let each = c.each_node_has_a_site.ensures places (were-read texts (map script_of c.args.scripts.now) places are) in
    c.nodes_of_plans_have_sites.ensures.all (all_sites places) each stranger

pub returns-clause-kept : goal.returns-clause-kept
returns-clause-kept c texts paths places are stranger =
    let each = c.each_node_has_a_site.ensures places (were-read texts (map script_of c.args.scripts.now) places are) in
    c.nodes_of_plans_have_sites.ensures.kept (all_sites places) paths each stranger
