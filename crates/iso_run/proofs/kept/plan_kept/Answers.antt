use Rattle.std.proofs.Common.{◌≡◌, Bool, false, cond, IfOk, IfErr, List, Option, Some, None, Vec, map, ap, sym, subst, ◌∙◌}
use Rattle.std.specs.Global.{Global}
use Rattle.std.specs.Option.{option_map}
use Rattle.iso_model.specs.ScriptView.{script_of}
use Rattle.iso_plan.specs.Faults.{IsFaultOf, plan_fault}
use Rattle.iso_plan.specs.RowView.{tree_of}
use Rattle.iso_plan.specs.KeptNodes.{plan_tree, texts_of}
use Rattle.iso_plan.specs.Tree.{Row}
use Rattle.iso_plan.specs.declared.fault.PlanFault.{PlanFault}
use Rattle.iso_selection.specs.PickedPlans.{picked_plan_fault, picked_tree}
use Rattle.iso_selection.specs.Wishes.{Wish, wish_of}
use Rattle.iso_selection.specs.declared.wanted.Wanted.{Wanted}
use Rattle.iso_run.specs.Suites.{asks_for_paths, kept_fault, kept_nodes, wishes_in}
use Rattle.iso_run.specs.declared.inputs.Inputs.{Inputs}
use Rattle.iso_model.specs.Scripts.{Script}
use Rattle.iso_run.proofs.kept.plan_kept.Goals as goal

-- what is asked for, as it is lent
wishes : (inputs : Inputs) (answer : Option (Vec Wanted Global)) (v : Vec Wanted Global) (lent : List Wanted) → answer ≡ Some v → lent ≡ v.items
    → option_map (λ (v : Vec Wanted Global). map wish_of v.items) answer ≡ wishes_in inputs → Some (map wish_of lent) ≡ wishes_in inputs
wishes inputs answer v lent is same all =
    ap (λ (w : List Wanted). Some (map wish_of w)) same ∙ sym (ap (option_map (λ (v : Vec Wanted Global). map wish_of v.items)) is) ∙ all

-- what is picked is kept where more is asked for than paths
nodes : (inputs : Inputs) (ss : List Script) (w : Option (List Wish)) → false ≡ asks_for_paths inputs → w ≡ wishes_in inputs → picked_tree ss w inputs.shard ≡ kept_nodes inputs ss
nodes inputs ss w more is =
    ap (λ (w : Option (List Wish)). picked_tree ss w inputs.shard) is
    ∙ ap (λ (b : Bool). cond b (plan_tree ss (texts_of inputs.only.now)) (picked_tree ss (wishes_in inputs) inputs.shard)) more

fault : (inputs : Inputs) (ss : List Script) (w : Option (List Wish)) → false ≡ asks_for_paths inputs → w ≡ wishes_in inputs → picked_plan_fault ss w inputs.shard ≡ kept_fault inputs ss
fault inputs ss w more is =
    ap (λ (w : Option (List Wish)). picked_plan_fault ss w inputs.shard) is
    ∙ ap (λ (b : Bool). cond b (plan_fault ss (texts_of inputs.only.now)) (picked_plan_fault ss (wishes_in inputs) inputs.shard)) more

pub returns-in-Some-clause-nodes : goal.returns-in-Some-clause-nodes
returns-in-Some-clause-nodes c =
    let given = wishes c.args.inputs c.in_ok-wanted.field-0 c.in-Some.wanted c.as_slice.result.now c.in-Some.is c.as_slice.ensures.value c.in_ok-wanted.ensures in
    subst (λ (rows : List Row). IfOk c.build_picked.result (λ p. tree_of p ≡ rows)) (nodes c.args.inputs (map script_of c.args.scripts.now) _ c.if-asks_for_paths.ensures given)
    c.build_picked.ensures.tree

pub returns-in-Some-clause-accepted : goal.returns-in-Some-clause-accepted
returns-in-Some-clause-accepted c =
    let given = wishes c.args.inputs c.in_ok-wanted.field-0 c.in-Some.wanted c.as_slice.result.now c.in-Some.is c.as_slice.ensures.value c.in_ok-wanted.ensures in
    subst (λ (f : Option PlanFault). IfOk c.build_picked.result (λ p. f ≡ None)) (fault c.args.inputs (map script_of c.args.scripts.now) _ c.if-asks_for_paths.ensures given)
    c.build_picked.ensures.accepted

pub returns-in-Some-clause-refused : goal.returns-in-Some-clause-refused
returns-in-Some-clause-refused c =
    let given = wishes c.args.inputs c.in_ok-wanted.field-0 c.in-Some.wanted c.as_slice.result.now c.in-Some.is c.as_slice.ensures.value c.in_ok-wanted.ensures in
    subst (λ (f : Option PlanFault). IfErr c.build_picked.result (IsFaultOf f)) (fault c.args.inputs (map script_of c.args.scripts.now) _ c.if-asks_for_paths.ensures given)
    c.build_picked.ensures.refused
