use Rattle.std.proofs.Common.{◌≡◌, ◌<◌, ℕ, Bool, false, true, length, refl, ap, sym, ◌∙◌, subst}
use Rattle.iso_floor.proofs.FreeTrays.{FindsItsValues, done-free, entered-free, free-entry, free-within}
use Rattle.iso_floor.proofs.NodeTrays.{opening-can, test-can}
use Rattle.iso_locks.specs.Trays.{TrayView}
use Rattle.iso_plan.specs.Locks.{takes_write}
use Rattle.iso_plan.specs.Paths.{IsTree, is_test, row_at}
use Rattle.iso_plan.specs.Planned.{Planned}
use Rattle.iso_plan.specs.RowView.{tree_of}
use Rattle.iso_floor.proofs.worker.Worker.begin_entered.Goals as goal

tree-in : (p q : Planned) → p ≡ q → IsTree (tree_of p) → IsTree (tree_of q)
tree-in p q e tree = subst (λ (x : Planned). IsTree (tree_of x)) e tree

law-in : (t u : TrayView) → t ≡ u → FindsItsValues t → FindsItsValues u
law-in t u e law = subst FindsItsValues e law

within-in : (p plan : Planned) (n : ℕ) → p ≡ plan → n < length plan.rows → n < length p.rows
within-in p plan n e h = subst (λ (x : Planned). n < length x.rows) (sym e) h

pub finish-requires : goal.finish-requires
finish-requires g c =
    let plan = g.G.Ground.plan in
    let tree = tree-in c.plan-plan.result.now plan c.plan-plan.ensures c.nodes_are_a_tree.ensures in
    let law = law-in c.tray.result.now c.args.seat.now.tray c.tray.ensures.tray c.lent_nodes_find_their_values.ensures.written in
    let ground = c.tray.ensures.ground in
    free-entry plan g.G.Ground.start tree c.args.node c.args.seat.now.tray ground.plan_is ground.world_is c.requires law

writes-in : (p plan : Planned) (n : ℕ) (b : Bool) → p ≡ plan → takes_write (tree_of p) n ≡ b → takes_write (tree_of plan) n ≡ b
writes-in p plan n b e is = ap (λ (x : Planned). takes_write (tree_of x) n) (sym e) ∙ is

test-in : (p plan : Planned) (n : ℕ) (b : Bool) → p ≡ plan → is_test (row_at (tree_of p) n).kind ≡ b → is_test (row_at (tree_of plan) n).kind ≡ b
test-in p plan n b e is = ap (λ (x : Planned). is_test (row_at (tree_of x) n).kind) (sym e) ∙ is

pub is_writer-requires : goal.is_writer-requires
is_writer-requires g c =
    let plan = g.G.Ground.plan in
    let tree = tree-in c.plan-plan.result.now plan c.plan-plan.ensures c.nodes_are_a_tree.ensures in
    within-in c.plan-plan.result.now plan c.args.node c.plan-plan.ensures (free-within plan g.G.Ground.start tree c.args.node c.args.seat.now.tray c.tray.ensures.ground.plan_is c.requires)

pub is_test-requires : goal.is_test-requires
is_test-requires g c =
    let plan = g.G.Ground.plan in
    let tree = tree-in c.plan-plan.result.now plan c.plan-plan.ensures c.nodes_are_a_tree.ensures in
    within-in c.plan-plan.result.now plan c.args.node c.plan-plan.ensures (free-within plan g.G.Ground.start tree c.args.node c.args.seat.now.tray c.tray.ensures.ground.plan_is c.requires)

pub perform_and_turn-requires-clause-can : goal.perform_and_turn-requires-clause-can
perform_and_turn-requires-clause-can g c =
    let plan = g.G.Ground.plan in
    let tree = tree-in c.plan-plan.result.now plan c.plan-plan.ensures c.nodes_are_a_tree.ensures in
    let law = law-in c.tray.result.now c.args.seat.now.tray c.tray.ensures.tray c.lent_nodes_find_their_values.ensures.written in
    let ground = c.tray.ensures.ground in
    let entry = free-entry plan g.G.Ground.start tree c.args.node c.args.seat.now.tray ground.plan_is ground.world_is c.requires law in
    test-can plan g.G.Ground.start c.args.node c.args.seat.now.tray entry
    (test-in c.plan-plan.result.now plan c.args.node true c.plan-plan.ensures (sym c.is_test.ensures ∙ c.if-is_test.true))

pub perform_and_turn-requires-clause-free : goal.perform_and_turn-requires-clause-free
perform_and_turn-requires-clause-free g c =
    let plan = g.G.Ground.plan in
    let tree = tree-in c.plan-plan.result.now plan c.plan-plan.ensures c.nodes_are_a_tree.ensures in
    entered-free plan g.G.Ground.start tree c.args.node c.args.seat.now.tray c.tray.ensures.ground.plan_is c.requires
    (writes-in c.plan-plan.result.now plan c.args.node false c.plan-plan.ensures (sym c.is_writer.ensures ∙ c.if-is_writer.false))

pub perform_and_turn-requires-else-is_test-clause-can : goal.perform_and_turn-requires-else-is_test-clause-can
perform_and_turn-requires-else-is_test-clause-can g c =
    let plan = g.G.Ground.plan in
    let tree = tree-in c.plan-plan.result.now plan c.plan-plan.ensures c.nodes_are_a_tree.ensures in
    let law = law-in c.tray.result.now c.args.seat.now.tray c.tray.ensures.tray c.lent_nodes_find_their_values.ensures.written in
    let ground = c.tray.ensures.ground in
    let entry = free-entry plan g.G.Ground.start tree c.args.node c.args.seat.now.tray ground.plan_is ground.world_is c.requires law in
    opening-can plan g.G.Ground.start c.args.node c.args.seat.now.tray entry
    (test-in c.plan-plan.result.now plan c.args.node false c.plan-plan.ensures (sym c.is_test.ensures ∙ c.if-is_test.false))

pub perform_and_turn-requires-else-is_test-clause-free : goal.perform_and_turn-requires-else-is_test-clause-free
perform_and_turn-requires-else-is_test-clause-free g c =
    let plan = g.G.Ground.plan in
    let tree = tree-in c.plan-plan.result.now plan c.plan-plan.ensures c.nodes_are_a_tree.ensures in
    entered-free plan g.G.Ground.start tree c.args.node c.args.seat.now.tray c.tray.ensures.ground.plan_is c.requires
    (writes-in c.plan-plan.result.now plan c.args.node false c.plan-plan.ensures (sym c.is_writer.ensures ∙ c.if-is_writer.false))

pub returns-then-is_writer : goal.returns-then-is_writer
returns-then-is_writer g c =
    let plan = g.G.Ground.plan in
    let tree = tree-in c.plan-plan.result.now plan c.plan-plan.ensures c.nodes_are_a_tree.ensures in
    let law = law-in c.tray.result.now c.args.seat.now.tray c.tray.ensures.tray c.lent_nodes_find_their_values.ensures.written in
    let ground = c.tray.ensures.ground in
    record {
      before = c.finish.new.seat;
      free = done-free plan g.G.Ground.start tree c.args.node c.args.seat.now.tray c.finish.new.seat.tray ground.plan_is c.requires law c.in_ok-finish.ensures.inside;
      found = refl;
    }
