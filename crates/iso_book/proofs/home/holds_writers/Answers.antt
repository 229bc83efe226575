use Rattle.std.proofs.Common.{◌≡◌, ◌<◌, ℕ, ap, sym, ◌∙◌, subst, arith}
use Rattle.std.specs.Prelude.{unwrap_or}
use Rattle.iso_book.proofs.Homes.{begins, ends, goes-up, stops}
use Rattle.iso_plan.specs.Paths.{IsTree, parent_of}
use Rattle.iso_plan.specs.Planned.{Planned}
use Rattle.iso_plan.specs.RowView.{tree_of}
use Rattle.iso_book.proofs.home.holds_writers.Goals as goal

tree-in : (p q : Planned) → p ≡ q → IsTree (tree_of p) → IsTree (tree_of q)
tree-in p q e tree = subst (λ (j : Planned). IsTree (tree_of j)) e tree

up-in : (p q : Planned) (n m : ℕ) → p ≡ q → m ≡ unwrap_or (parent_of (tree_of p) n) 0 → m ≡ unwrap_or (parent_of (tree_of q) n) 0
up-in p q n m e h = h ∙ ap (λ (j : Planned). unwrap_or (parent_of (tree_of j) n) 0) e

pub up-init : goal.up-init
up-init c =
    let t = c.args.tray.now in
    let e = c.plan-plan.ensures in
    begins t (tree-in c.plan-plan.result.now t.plan e c.nodes_are_a_tree.ensures) c.args.node c.unwrap_or-at.result c.requires.inner c.requires.node
    (up-in c.plan-plan.result.now t.plan c.args.node c.unwrap_or-at.result e (c.unwrap_or-at.ensures ∙ ap (λ o. unwrap_or o 0) c.parent.ensures))

pub returns-then-is_missing : goal.returns-then-is_missing
returns-then-is_missing c =
    let t = c.args.tray.now in
    let tree = tree-in c.plan-plan.result.now t.plan c.plan-plan.ensures c.nodes_are_a_tree.ensures in
    let pos : 0 < c.up.at = omega (arith, c.up-test.true) in
    sym (stops t tree c.args.node c.up.at c.up.invariant pos (sym c.is_missing.ensures ∙ c.if-is_missing.true))

pub up-preserved : goal.up-preserved
up-preserved c =
    let t = c.args.tray.now in
    let e = c.plan-plan.ensures in
    let tree = tree-in c.plan-plan.result.now t.plan e c.nodes_are_a_tree.ensures in
    let pos : 0 < c.up.at = omega (arith, c.up-test.true) in
    goes-up t tree c.args.node c.up.at c.unwrap_or-at-in-up.result c.up.invariant pos (sym c.is_missing.ensures ∙ c.if-is_missing.false)
    (up-in c.plan-plan.result.now t.plan c.up.at c.unwrap_or-at-in-up.result e (c.unwrap_or-at-in-up.ensures ∙ ap (λ o. unwrap_or o 0) c.parent-in-up.ensures))

pub returns : goal.returns
returns c =
    let t = c.args.tray.now in
    let tree = tree-in c.plan-plan.result.now t.plan c.plan-plan.ensures c.nodes_are_a_tree.ensures in
    sym (ends t tree c.args.node c.up.at c.up.invariant (omega (arith, c.up-test.false)))
