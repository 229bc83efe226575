use Rattle.std.proofs.Common.{◌≡◌, ◌<◌, List, Option, Some, None, IfErr, IfOk, [], length, map, ap, sym, subst, ◌∙◌}
use Rattle.iso_model.specs.ScriptView.{script_of}
use Rattle.iso_plan.specs.Faults.{IsFaultOf, plan_fault}
use Rattle.iso_plan.specs.RowView.{tree_of}
use Rattle.iso_plan.specs.Tree.{Row, tree}
use Rattle.iso_plan.specs.declared.fault.PlanFault.{PlanFault}
use Rattle.iso_selection.proofs.PlanLemmas.{left-is, nothing-fault, nothing-tree, these-fault}
use Rattle.iso_selection.specs.Picks.{HasPaths, paths_of, picked}
use Rattle.iso_selection.specs.Wishes.{wishes_of}
use Rattle.iso_selection.proofs.plan.build_picked.Goals as goal

pub returns-in-Nothing-clause-tree : goal.returns-in-Nothing-clause-tree
returns-in-Nothing-clause-tree c =
    let scripts = map script_of c.args.scripts.now in
    let none : Some [] ≡ picked (tree scripts) (wishes_of c.args.wanted) c.args.shard = sym (ap paths_of c.in-Nothing.is) ∙ c.in_ok-pick.ensures.picked in
    subst (λ (rows : List Row). IfOk c.build-in-Nothing.result (λ p. tree_of p ≡ rows)) (nothing-tree scripts (wishes_of c.args.wanted) c.args.shard none) c.build-in-Nothing.ensures.tree

pub returns-in-Nothing-clause-accepted : goal.returns-in-Nothing-clause-accepted
returns-in-Nothing-clause-accepted c =
    let scripts = map script_of c.args.scripts.now in
    let none : Some [] ≡ picked (tree scripts) (wishes_of c.args.wanted) c.args.shard = sym (ap paths_of c.in-Nothing.is) ∙ c.in_ok-pick.ensures.picked in
    let left = left-is scripts (wishes_of c.args.wanted) c.args.shard [] none c.in_ok-pick.ensures.accepted in
    subst (λ (first : Option PlanFault). IfOk c.build-in-Nothing.result (λ p. first ≡ None)) (nothing-fault scripts (wishes_of c.args.wanted) c.args.shard left) c.build-in-Nothing.ensures.accepted

pub returns-in-These-clause-refused : goal.returns-in-These-clause-refused
returns-in-These-clause-refused c =
    let scripts = map script_of c.args.scripts.now in
    let paths = c.in-These.paths.items in
    let are : Some paths ≡ picked (tree scripts) (wishes_of c.args.wanted) c.args.shard = sym (ap paths_of c.in-These.is) ∙ c.in_ok-pick.ensures.picked in
    let some : 0 < length paths = subst HasPaths c.in-These.is c.in_ok-pick.ensures.some in
    let left = left-is scripts (wishes_of c.args.wanted) c.args.shard paths are c.in_ok-pick.ensures.accepted in
    subst (λ (first : Option PlanFault). IfErr c.build_these.result (IsFaultOf first))
    (ap (plan_fault scripts) c.deref.ensures.value ∙ these-fault scripts (wishes_of c.args.wanted) c.args.shard paths some left)
    c.build_these.ensures.refused
