use Rattle.std.proofs.Common.{◌≡◌, List, IfOk, Ok, Err, map, sym, subst, ◌∙◌}
use Rattle.iso_model.specs.ScriptView.{script_of}
use Rattle.iso_plan.proofs.PreorderLemmas.{plan-in-order}
use Rattle.iso_plan.proofs.SelectionLemmas.{selection-is-tree, selection-same}
use Rattle.iso_plan.proofs.TreeLemmas.{tree-is}
use Rattle.iso_plan.specs.Paths.{IsTree}
use Rattle.iso_plan.specs.Preorder.{IsPreorder}
use Rattle.iso_plan.specs.RowView.{row_of, tree_of}
use Rattle.iso_plan.specs.SameNodes.{IsSameNode, KeepsChains}
use Rattle.iso_plan.specs.KeptNodes.{is_kept, number_among, texts_of}
use Rattle.iso_plan.specs.Tree as T
use Rattle.iso_plan.specs.Tree.{tree}
use Rattle.iso_plan.proofs.plan.build_only.Goals as goal

pub plan_of-requires-clause-tree : goal.plan_of-requires-clause-tree
plan_of-requires-clause-tree c =
    let ss = map script_of c.args.scripts.now in
    let only = texts_of c.args.only.now in
    subst (λ (rs : List T.Row). IsTree rs) (sym c.in_ok-rows.ensures.tree) (selection-is-tree (tree ss) (tree-is ss) only)

pub plan_of-requires-clause-order : goal.plan_of-requires-clause-order
plan_of-requires-clause-order c =
    subst (λ (rs : List T.Row). IsPreorder rs) (sym c.in_ok-rows.ensures.tree) (plan-in-order (map script_of c.args.scripts.now) (texts_of c.args.only.now))

pub returns-clause-chains : goal.returns-clause-chains
returns-clause-chains c =
    let ss = map script_of c.args.scripts.now in
    let only = texts_of c.args.only.now in
    elim c.plan_of.result as (λ r. IfOk r (λ p. tree_of p ≡ map row_of c.in_ok-rows.rows.items) → IfOk r (KeepsChains (tree ss) only)) [
      | Ok p ↦ λ same. λ m h e. subst (λ (rs : List T.Row). IsSameNode (tree ss) m rs (number_among (is_kept (tree ss) only) m)) (sym (same ∙ c.in_ok-rows.ensures.tree))
          (selection-same (tree ss) (tree-is ss) only m h e)
      | Err e ↦ λ same. same
    ] c.plan_of.ensures.tree
