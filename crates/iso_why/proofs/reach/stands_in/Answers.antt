use Rattle.std.proofs.Common.{◌<◌, ◌≤◌, ap, ◌∙◌, arith}
use Rattle.iso_plan.specs.Paths.{is_under, parent}
use Rattle.iso_plan.specs.RowView.{tree_of}
use Rattle.iso_why.proofs.ReachLemmas.{rest-is, up-same}
use Rattle.iso_why.proofs.reach.stands_in.Goals as goal

pub up-preserved : goal.up-preserved
up-preserved c =
    let tree = tree_of c.args.plan.now in
    let below = c.parents_come_first.ensures in
    record {
      within =
          let pos : 0 < c.up.node = omega arith in
          let less : parent tree c.up.node < c.up.node = below c.up.node pos in
          let e = c.class_of-node.ensures in
          let k = c.up.invariant.within in
          omega arith;
      same = ap (is_under tree c.args.other) c.class_of-node.ensures ∙ up-same tree below c.args.other c.up.node c.up-test.true ∙ c.up.invariant.same;
    }

pub returns : goal.returns
returns c =
    let tree = tree_of c.args.plan.now in
    rest-is tree c.parents_come_first.ensures c.args.other c.up.node c.requires.above c.up-test.false ∙ c.up.invariant.same
