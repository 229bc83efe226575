use Rattle.std.proofs.Common.{◌≡◌, subst}
use Rattle.iso_plan.specs.Paths.{IsTree}
use Rattle.iso_plan.specs.Planned.{Planned}
use Rattle.iso_plan.specs.RowView.{tree_of}
use Rattle.iso_floor.proofs.FreeTrays.{FindsItsValues, free-closing, shut-free}
use Rattle.iso_floor.proofs.worker.Worker.end_shut.Goals as goal

tree-in : (p q : Planned) → p ≡ q → IsTree (tree_of p) → IsTree (tree_of q)
tree-in p q e tree = subst (λ (x : Planned). IsTree (tree_of x)) e tree

pub perform_and_turn-requires-clause-can : goal.perform_and_turn-requires-clause-can
perform_and_turn-requires-clause-can g c =
    let plan = g.G.Ground.plan in
    let tree = tree-in c.plan.result.now plan c.plan.ensures c.nodes_are_a_tree.ensures in
    let law : FindsItsValues c.args.seat.now.tray = subst FindsItsValues c.tray.ensures.tray c.lent_nodes_find_their_values.ensures.written in
    let ground = c.tray.ensures.ground in
    free-closing plan g.G.Ground.start tree c.args.class c.args.seat.now.tray ground.plan_is ground.world_is c.requires law

pub perform_and_turn-requires-clause-free : goal.perform_and_turn-requires-clause-free
perform_and_turn-requires-clause-free g c =
    shut-free g.G.Ground.plan g.G.Ground.start (tree-in c.plan.result.now g.G.Ground.plan c.plan.ensures c.nodes_are_a_tree.ensures) c.args.class c.args.seat.now.tray c.requires
