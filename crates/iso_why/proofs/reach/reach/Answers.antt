use Rattle.std.proofs.Common.{◌<◌, ◌≤◌, ◌≡◌, length, ◌∙◌, ap, arith}
use Rattle.iso_plan.specs.RowView.{tree_of}
use Rattle.iso_why.proofs.ReachLemmas.{reach-all, reach-more, reach-start, zeros}
use Rattle.iso_why.proofs.reach.reach.Goals as goal

pub nodes-init : goal.nodes-init
nodes-init c =
    reach-start (tree_of c.args.plan.now) c.in_ok-ends.ends.items (c.in_ok-ends.ensures.items_if_clones_equal (λ y e. e) ∙ ap zeros c.len.ensures)

pub reach_to-requires : goal.reach_to-requires
reach_to-requires c =
    let few : length c.args.plan.now.rows < 4294967296 = omega arith in
    record { within = omega arith; few = few; each = c.nodes.invariant.each; before = c.nodes.invariant.before }

pub nodes-preserved : goal.nodes-preserved
nodes-preserved c =
    let e = c.reach_to.ensures in
    reach-more (tree_of c.args.plan.now) c.nodes.node c.nodes.ends.items c.reach_to.new.ends.items c.nodes.invariant e.each e.before e.grows e.reached

pub returns : goal.returns
returns c =
    let some : 0 < length c.args.plan.now.rows = c.nodes_are_a_tree.ensures.rooted in
    let all : c.nodes.node ≡ length c.args.plan.now.rows = omega arith in
    reach-all (tree_of c.args.plan.now) c.nodes.node c.nodes.ends.items all c.nodes.invariant
