use Rattle.std.proofs.Common.{◌<◌, ◌≤◌, ◌≡◌, length, ◌∙◌, sym, ap, arith}
use Rattle.iso_conflicts.proofs.TestLemmas.{counted-all, counted-more, counted-start, fewer-at, zeros}
use Rattle.iso_plan.specs.RowView.{tree_of}
use Rattle.iso_conflicts.proofs.tests.tests_in.Goals as goal

pub nodes-init : goal.nodes-init
nodes-init c =
    counted-start (tree_of c.args.plan.now) c.in_ok-counts.counts.items
    (c.in_ok-counts.ensures.items_if_clones_equal (λ y e. e) ∙ ap zeros c.len.ensures)

pub count_node-requires : goal.count_node-requires
count_node-requires c =
    let tree = tree_of c.args.plan.now in
    let above : 1 ≤ c.nodes.node = c.nodes.auto.node in
    record {
      within = omega arith;
      each = c.nodes.invariant.each;
      fits = λ m. rw (c.nodes.invariant.so_far m) (fewer-at tree m c.nodes.node (omega arith));
    }

pub nodes-preserved : goal.nodes-preserved
nodes-preserved c =
    counted-more (tree_of c.args.plan.now) c.nodes.node c.nodes.counts.items c.count_node.new.counts.items c.nodes.invariant
    c.count_node.ensures.each c.count_node.ensures.counted

pub returns : goal.returns
returns c =
    let some : 0 < length c.args.plan.now.rows = c.nodes_are_a_tree.ensures.rooted in
    let all : c.nodes.node ≡ length c.args.plan.now.rows = omega arith in
    counted-all (tree_of c.args.plan.now) c.nodes.node c.nodes.counts.items all c.nodes.invariant
