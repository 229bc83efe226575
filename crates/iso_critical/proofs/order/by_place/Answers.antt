use Rattle.std.proofs.Common.{◌+◌, ◌*◌, List, ◌++◌, map, ap, ◌∙◌}
use Rattle.iso_critical.specs.Bodies.{body_at}
use Rattle.iso_critical.specs.Orders.{placed}
use Rattle.iso_critical.specs.declared.body.Body.{Body}
use Rattle.iso_critical.proofs.OrderLemmas.{node-more}
use Rattle.iso_critical.proofs.order.by_place.Goals as goal

pub nodes-preserved : goal.nodes-preserved
nodes-preserved c =
    let times = c.args.times.now in
    let n = c.nodes.node in
    c.in_ok-add-2.ensures
    ∙ ap (λ (cs : List Body). cs ++ map (body_at times) (placed times (2 * n + 1))) c.in_ok-add.ensures
    ∙ node-more times n c.nodes.bodies.items c.nodes.invariant
