use Rattle.std.proofs.Common.{◌<◌, ◌≤◌, sym, ◌∙◌, arith}
use Rattle.iso_plan.specs.RowView.{tree_of}
use Rattle.iso_why.proofs.GiverLemmas.{is_giver, passing-end, passing-no, passing-yes}
use Rattle.iso_why.proofs.givers.next_giver.Goals as goal

pub returns-then-is_giver : goal.returns-then-is_giver
returns-then-is_giver c =
    let p = is_giver (tree_of c.args.plan.now) c.args.node c.args.lock in
    let from : c.args.from ≤ c.nodes.giver = omega arith in
    (from, c.nodes-test.true, sym c.nodes.invariant ∙ passing-yes p c.nodes.giver c.args.end c.nodes-test.true (sym c.is_giver.ensures ∙ c.if-is_giver.true))

pub nodes-preserved : goal.nodes-preserved
nodes-preserved c =
    let p = is_giver (tree_of c.args.plan.now) c.args.node c.args.lock in
    sym (passing-no p c.nodes.giver c.args.end c.nodes-test.true (sym c.is_giver.ensures ∙ c.if-is_giver.false)) ∙ c.nodes.invariant

pub returns : goal.returns
returns c =
    let p = is_giver (tree_of c.args.plan.now) c.args.node c.args.lock in
    sym c.nodes.invariant ∙ passing-end p c.nodes.giver c.args.end c.nodes-test.false
