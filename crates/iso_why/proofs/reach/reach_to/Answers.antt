use Rattle.std.proofs.Common.{◌<◌, ◌≤◌, ◌≡◌, ◌+◌, length, set, subst, sym, ◌∙◌, arith}
use Rattle.iso_plan.specs.Paths.{parent}
use Rattle.iso_plan.specs.RowView.{tree_of}
use Rattle.iso_why.proofs.ReachLemmas.{Climbs, climb-end, climb-more, climb-start}
use Rattle.iso_why.proofs.reach.reach_to.Goals as goal

pub up-init : goal.up-init
up-init c = climb-start (tree_of c.args.plan.now) c.args.last c.args.ends.now.items c.requires.before

pub index_mut-requires : goal.index_mut-requires
index_mut-requires c =
    let inside : c.up.node < length c.up.ends.items = let w = c.requires.within in let e = c.up.invariant.each in let f = c.requires.each in let k = c.up.invariant.within in omega arith in
    omega (arith, c.up.ends.ok.0)

pub up-preserved : goal.up-preserved
up-preserved c =
    let tree = tree_of c.args.plan.now in
    let n = c.up.node in
    let inside : n < length c.up.ends.items = let w = c.requires.within in let e = c.up.invariant.each in let f = c.requires.each in let k = c.up.invariant.within in omega arith in
    let more = climb-more tree c.parents_come_first.ensures c.args.last n c.args.ends.now.items c.up.ends.items c.up-test.true inside c.up.invariant in
    rw c.class_of-node.ensures more

pub returns : goal.returns
returns c =
    let tree = tree_of c.args.plan.now in
    record {
      each = c.up.invariant.each ∙ c.requires.each;
      before = c.up.invariant.before;
      grows = c.up.invariant.grows;
      reached = climb-end tree c.args.last c.up.node c.args.ends.now.items c.up.ends.items c.up-test.false c.up.invariant;
    }
