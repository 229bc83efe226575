use Rattle.std.proofs.Common.{subst}
use Rattle.iso_affected.proofs.NamesakeLemmas.{namesake-node}
use Rattle.iso_affected.specs.Fates.{IsFate, suites}
use Rattle.iso_affected.specs.declared.affected.Fate.TheVariants.{Changed}
use Rattle.iso_plan.specs.RowView.{tree_of}
use Rattle.iso_affected.proofs.told.difference_of.Goals as goal

pub what_differs-requires-clause-above : goal.what_differs-requires-clause-above
what_differs-requires-clause-above c =
    let old = c.args.old.now in
    let new = c.args.new.now in
    let m = c.in-Changed.namesake in
    let fate : IsFate (suites old c.args.starts.now.before new c.args.starts.now.after) c.args.node (Changed m) =
    subst (IsFate (suites old c.args.starts.now.before new c.args.starts.now.after) c.args.node) c.in-Changed.is c.requires.fate in
    (namesake-node (tree_of old) (tree_of new) c.nodes_are_a_tree-2.ensures c.args.node m c.requires.above fate.0.is).above
