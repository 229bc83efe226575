use Rattle.std.proofs.Common.{◌≡◌, ◌≤◌, Option, Some, get_or, length, map, not, ap, sym, subst, ◌∙◌, arith}
use Rattle.std.proofs.lemmas.Result.{err_from_is_err_and}
use Rattle.iso_model.specs.ScriptView.{script_of}
use Rattle.iso_plan.proofs.ColumnLemmas.{column-read, length-column}
use Rattle.iso_plan.proofs.TreeLemmas.{tree-is}
use Rattle.iso_plan.specs.Faults.{IsFaultOf, not_selected}
use Rattle.iso_plan.specs.PathTexts.{path_text}
use Rattle.iso_plan.specs.TopClasses.{all_top_classes, top_class}
use Rattle.iso_plan.specs.Tree.{tree}
use Rattle.iso_plan.specs.declared.fault.PlanFault.{PlanFault}
use Rattle.iso_selection.proofs.NodeLemmas.{top_class-le}
use Rattle.iso_selection.proofs.PickLemmas.{pick-fault, picked-by, picked-shard, picked-wanted}
use Rattle.iso_selection.specs.Picks.{is_picked, picked, picked_paths}
use Rattle.iso_selection.specs.Wishes.{is_named_by, wishes_of}
use Rattle.iso_selection.proofs.pick.pick.Goals as goal
use Rattle.iso_selection.proofs.pick.pick.Goals.{else-is_none-via-then-is_none+else-is_none-2, else-is_none-via-else-is_none}

pub returns-in_err-named-clause-refused : goal.returns-in_err-named-clause-refused
returns-in_err-named-clause-refused c =
    let scripts = map script_of c.args.scripts.now in
    let p = err_from_is_err_and c.from_residual-in_err-named.result c.from_residual-in_err-named.ensures.1 in
    let e = c.in_err-named.field-0.0 in
    rw (p.1, p.2) (subst (λ (first : Option PlanFault). IsFaultOf first e) (sym (pick-fault scripts (wishes_of c.args.wanted) c.args.shard c.in_ok-nodes.ensures.accepted))
    (c.in_err-named.ensures.unknown (tree scripts) (tree-is scripts) c.in_ok-nodes.ensures.paths))

pub in_shard-requires-clause-each : goal.in_shard-requires-clause-each
in_shard-requires-clause-each c =
    let scripts = map script_of c.args.scripts.now in
    let nodes = tree scripts in
    ap length (c.in_ok-named.ensures.named nodes (tree-is scripts) c.in_ok-nodes.ensures.paths c.in_ok-nodes.ensures.classes)
    ∙ length-column (is_named_by nodes (wishes_of c.args.wanted)) (length nodes)
    ∙ sym (ap length (c.deref.ensures.value ∙ c.in_ok-nodes.ensures.classes) ∙ length-column (top_class nodes) (length nodes))

pub in_shard-requires-clause-above : goal.in_shard-requires-clause-above
in_shard-requires-clause-above c = λ n h.
    let scripts = map script_of c.args.scripts.now in
    let nodes = tree scripts in
    let classes = c.deref.result.now in
    let are : classes ≡ all_top_classes nodes = c.deref.ensures.value ∙ c.in_ok-nodes.ensures.classes in
    let count : length classes ≡ length nodes = ap length are ∙ length-column (top_class nodes) (length nodes) in
    let own : get_or classes n 0 ≡ top_class nodes n = column-read (top_class nodes) classes (length nodes) n 0 are (omega arith) in
    let le : top_class nodes n ≤ n = top_class-le nodes (tree-is scripts) n in
    omega arith

pub kept_paths-requires : goal.kept_paths-requires
kept_paths-requires c =
    let scripts = map script_of c.args.scripts.now in
    let nodes = tree scripts in
    let wishes = wishes_of c.args.wanted in
    let named = c.in_ok-named.ensures.named nodes (tree-is scripts) c.in_ok-nodes.ensures.paths c.in_ok-nodes.ensures.classes in
    let kept = c.in_ok-kept.ensures nodes (is_named_by nodes wishes) (c.deref.ensures.value ∙ c.in_ok-nodes.ensures.classes) named in
    ap length (c.deref-3.ensures.value ∙ kept) ∙ length-column (is_picked nodes wishes c.args.shard) (length nodes)
    ∙ sym (ap length (c.deref-2.ensures.value ∙ c.in_ok-nodes.ensures.paths) ∙ length-column (path_text nodes) (length nodes))

pub returns-clause-picked : goal.returns-clause-picked
returns-clause-picked c =
    let scripts = map script_of c.args.scripts.now in
    let nodes = tree scripts in
    let wishes = wishes_of c.args.wanted in
    let shard = c.args.shard in
    let named = c.in_ok-named.ensures.named nodes (tree-is scripts) c.in_ok-nodes.ensures.paths c.in_ok-nodes.ensures.classes in
    let kept = c.in_ok-kept.ensures nodes (is_named_by nodes wishes) (c.deref.ensures.value ∙ c.in_ok-nodes.ensures.classes) named in
    let some : picked nodes wishes shard ≡ Some (picked_paths nodes wishes shard) = elim c.else-is_none.branch [
      | else-is_none-via-then-is_none+else-is_none-2 w ↦ picked-shard nodes wishes shard (w.is_none-then-is_none.ensures ∙ ap not w.if-is_none-2.false)
      | else-is_none-via-else-is_none w ↦ picked-wanted nodes c.args.wanted shard (c.is_none.ensures ∙ ap not w.if-is_none.false)
    ] in
    c.these.ensures.paths
    ∙ ap Some (c.in_ok-kept_paths.ensures ∙ picked-by nodes (is_picked nodes wishes shard) c.deref-2.result.now c.deref-3.result.now (c.deref-2.ensures.value ∙ c.in_ok-nodes.ensures.paths)
    (c.deref-3.ensures.value ∙ kept))
    ∙ sym some

pub returns-clause-accepted : goal.returns-clause-accepted
returns-clause-accepted c =
    let scripts = map script_of c.args.scripts.now in
    pick-fault scripts (wishes_of c.args.wanted) c.args.shard c.in_ok-nodes.ensures.accepted
    ∙ ap not_selected (c.in_ok-named.ensures.known (tree scripts) (tree-is scripts) c.in_ok-nodes.ensures.paths)
