use Rattle.std.proofs.Common.{◌≡◌, length, subst}
use Rattle.iso_plan.specs.Planned.{Planned}
use Rattle.iso_plan.specs.RowView.{tree_of}
use Rattle.iso_plan.specs.Paths.{IsTree}
use Rattle.iso_locks.proofs.FindLemmas.{finds-start, finds-value}
use Rattle.iso_locks.proofs.OwnerLemmas.{lent-within}
use Rattle.iso_locks.specs.Trays.{TrayView}
use Rattle.iso_locks.proofs.laws.lent_nodes_find_their_values.Goals as goal

pub returns-clause-read : goal.returns-clause-read
returns-clause-read c =
    let t : TrayView = c.args.tray.now in
    let own = c.keep_owners.ensures in
    let is_tree = subst (λ (p : Planned). IsTree (tree_of p)) c.plan.ensures c.nodes_are_a_tree.ensures in
    let count : length t.lent ≡ length (tree_of t.plan) = own.lent in
    λ flat n k l h. finds-start t is_tree count own.owned flat n k (lent-within t.lent n l) l h

pub returns-clause-written : goal.returns-clause-written
returns-clause-written c =
    let t : TrayView = c.args.tray.now in
    let is_tree = subst (λ (p : Planned). IsTree (tree_of p)) c.plan.ensures c.nodes_are_a_tree.ensures in
    finds-value t is_tree c.keep_owners.ensures.owned
