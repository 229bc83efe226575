use Rattle.std.proofs.Common.{map, ap₂, subst, ◌∙◌}
use Rattle.std.specs.List.{zip}
use Rattle.iso_model.specs.ScriptView.{script_of}
use Rattle.iso_places.proofs.SiteLemmas.{found, paths-but-root, refused, rooted}
use Rattle.iso_places.specs.Located.{FindsBy}
use Rattle.iso_places.specs.Sites.{all_sites, places_in}
use Rattle.iso_plan.specs.KeptNodes.{node_paths}
use Rattle.iso_plan.specs.Tree.{tree}
use Rattle.iso_places.proofs.locate.locate.Goals as goal

pub returns-clause-found : goal.returns-clause-found
returns-clause-found c =
    let scripts = map script_of c.args.scripts.now in
    let nodes = tree scripts in
    let all = all_sites (places_in c.args.places.now) in
    let plan = c.args.plan.now.rows in
    let known = paths-but-root nodes c.deref.result.now (rooted scripts) (c.deref.ensures.value ∙ c.in_ok-nodes.ensures.paths) in
    let these = paths-but-root plan c.deref-3.result.now c.nodes_are_a_tree.ensures.rooted (c.deref-3.ensures.value ∙ c.in_ok-paths.ensures) in
    let finds = subst (FindsBy c.in_ok-table.table) (ap₂ zip known (c.deref-2.ensures.value ∙ c.in_ok-sites.ensures.sites)) c.in_ok-table.ensures in
    found scripts all plan _ c.nodes_are_a_tree.ensures.rooted these c.sites_of.result (c.sites_of.ensures.found (zip (node_paths nodes) all) finds)

pub returns-clause-refused : goal.returns-clause-refused
returns-clause-refused c =
    let scripts = map script_of c.args.scripts.now in
    let nodes = tree scripts in
    let all = all_sites (places_in c.args.places.now) in
    let plan = c.args.plan.now.rows in
    let known = paths-but-root nodes c.deref.result.now (rooted scripts) (c.deref.ensures.value ∙ c.in_ok-nodes.ensures.paths) in
    let these = paths-but-root plan c.deref-3.result.now c.nodes_are_a_tree.ensures.rooted (c.deref-3.ensures.value ∙ c.in_ok-paths.ensures) in
    let finds = subst (FindsBy c.in_ok-table.table) (ap₂ zip known (c.deref-2.ensures.value ∙ c.in_ok-sites.ensures.sites)) c.in_ok-table.ensures in
    refused scripts all plan _ c.nodes_are_a_tree.ensures.rooted these c.sites_of.result (c.sites_of.ensures.missing (zip (node_paths nodes) all) finds)
