use Rattle.std.proofs.Common.{◌≡◌, ◌<◌, Some, ℕ, length, ap, subst, sym, ◌∙◌}
use Rattle.iso_plan.specs.Paths.{IsTree, parent_of}
use Rattle.iso_plan.specs.Planned.{Planned}
use Rattle.iso_plan.specs.RowView.{tree_of}
use Rattle.iso_lifecycle.proofs.Barring.{HasParent, found-bars, found-open, found-outcome, goes-up, parent-some, root-bars-none}
use Rattle.iso_lifecycle.specs.ResultViews.{ResultsView}
use Rattle.iso_lifecycle.proofs.results.Results.barred_by.Goals as goal

has_parent : (p : Planned) (v : ResultsView) (at m : ℕ) → p ≡ v.plan → Some m ≡ parent_of (tree_of p) at → HasParent (tree_of v.plan) at m
has_parent p v at m e h = parent-some (tree_of v.plan) at m (ap (λ (q : Planned). parent_of (tree_of q) at) (sym e) ∙ sym h)

pub returns-in-Some-barring-clause-barred : goal.returns-in-Some-barring-clause-barred
returns-in-Some-barring-clause-barred c =
    let v = c.args.self.now in
    let e : c.self.inside.plan.now ≡ v.plan = ap (λ (u : ResultsView). u.plan) c.self.view_is in
    let tree : IsTree (tree_of v.plan) = subst (λ (q : Planned). IsTree (tree_of q)) e c.nodes_are_a_tree.ensures in
    let up = has_parent c.self.inside.plan.now v c.up.at c.in-Some.class e c.in-Some.ensures in
    sym (found-bars v tree c.args.node c.up.at c.in-Some.class c.in-Some-barring.opened.now c.up.invariant up c.in-Some-barring.ensures.opening (sym c.in-Some-barring.ensures.barring))

pub returns-in-Some-barring-clause-outcome : goal.returns-in-Some-barring-clause-outcome
returns-in-Some-barring-clause-outcome c =
    let v = c.args.self.now in
    let e : c.self.inside.plan.now ≡ v.plan = ap (λ (u : ResultsView). u.plan) c.self.view_is in
    let tree : IsTree (tree_of v.plan) = subst (λ (q : Planned). IsTree (tree_of q)) e c.nodes_are_a_tree.ensures in
    let up = has_parent c.self.inside.plan.now v c.up.at c.in-Some.class e c.in-Some.ensures in
    let within : c.args.node < length (tree_of v.plan) = c.requires in
    found-outcome v tree c.args.node c.up.at c.in-Some.class c.in-Some-barring.opened.now c.up.invariant up c.in-Some-barring.ensures.opening (sym c.in-Some-barring.ensures.barring) within

pub up-preserved : goal.up-preserved
up-preserved c =
    let v = c.args.self.now in
    let e : c.self.inside.plan.now ≡ v.plan = ap (λ (u : ResultsView). u.plan) c.self.view_is in
    let tree : IsTree (tree_of v.plan) = subst (λ (q : Planned). IsTree (tree_of q)) e c.nodes_are_a_tree.ensures in
    let up = has_parent c.self.inside.plan.now v c.up.at c.in-Some.class e c.in-Some.ensures in
    goes-up v tree c.args.node c.up.at c.in-Some.class c.up.invariant up (sym c.in_default-barring.ensures.barring)

pub returns-clause-barred : goal.returns-clause-barred
returns-clause-barred c =
    let v = c.args.self.now in
    let e : c.self.inside.plan.now ≡ v.plan = ap (λ (u : ResultsView). u.plan) c.self.view_is in
    let tree : IsTree (tree_of v.plan) = subst (λ (q : Planned). IsTree (tree_of q)) e c.nodes_are_a_tree.ensures in
    sym (root-bars-none v tree c.args.node c.up.at c.up.invariant (ap (λ (q : Planned). parent_of (tree_of q) c.up.at) (sym e) ∙ sym c.in_default.ensures))

pub returns-then-is_some-clause-barred : goal.returns-then-is_some-clause-barred
returns-then-is_some-clause-barred c =
    let v = c.args.self.now in
    let e : c.self.inside.plan.now ≡ v.plan = ap (λ (u : ResultsView). u.plan) c.self.view_is in
    let tree : IsTree (tree_of v.plan) = subst (λ (q : Planned). IsTree (tree_of q)) e c.nodes_are_a_tree.ensures in
    let up = has_parent c.self.inside.plan.now v c.up.at c.in-Some.class e c.in-Some.ensures in
    sym (found-open v tree c.args.node c.up.at c.in-Some.class c.opened.result c.up.invariant up c.opened.ensures.opening c.opened.ensures.put (sym c.if-is_some.ensures)
    (sym c.in_default-barring.ensures.barring))
