use Rattle.std.proofs.Common.{◌+◌, ◌++◌, List, ℕ, map, drop, ap, ◌∙◌, arith, append_assoc}
use Rattle.iso_model.specs.ScriptView.{class_of, script_of}
use Rattle.iso_model.specs.declared.script.Class.{Class}
use Rattle.iso_plan.proofs.Growth.{drop_next}
use Rattle.iso_plan.specs.Faults.{team_names, top_names}
use Rattle.iso_plan.proofs.names.top_names.Goals as goal

pub scripts-preserved : goal.scripts-preserved
scripts-preserved c =
    let i = c.scripts.script-index in
    let ss = c.args.scripts.now in
    let script = c.script-item.result in
    let next = drop_next script ss i (omega arith) c.script-item.is in
    let old = c.scripts.names.items in
    let rest = top_names (map script_of (drop (i + 1) ss)) in
    let names : List Class → List (List ℕ) = λ cs. team_names script.team (map class_of cs) in
    ap (λ (ns : List (List ℕ)). ns ++ rest) (c.in_ok-add_names.ensures ∙ ap (λ (cs : List Class). old ++ names cs) c.deref.ensures.value)
    ∙ append_assoc old (names script.classes.items) rest ∙ rw next at c.scripts.invariant
