use Rattle.std.proofs.Common.{map, ap, ◌∙◌}
use Rattle.std.proofs.lemmas.List.{map_push}
use Rattle.iso_plan.proofs.ColumnLemmas.{column-push}
use Rattle.iso_plan.specs.NodeChains.{node_rights}
use Rattle.iso_plan.specs.RowView.{rights_in, row_of}
use Rattle.iso_plan.proofs.rights.rights.Goals as goal

pub nodes-preserved : goal.nodes-preserved
nodes-preserved c =
    let own = c.in_ok-own.own in
    ap (map rights_in) c.in_ok-push.ensures.items ∙ map_push rights_in c.nodes.rights.items own
    ∙ column-push (node_rights (map row_of c.args.rows.now)) (map rights_in c.nodes.rights.items) c.nodes.n (rights_in own) c.nodes.invariant (λ i k. c.in_ok-own.ensures k i)
