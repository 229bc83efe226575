use Rattle.std.proofs.Common.{[], ◌∷◌, ◌+◌, ◌++◌, List, ℕ, map, drop, ap, sym, ◌∙◌, arith, append_assoc}
use Rattle.iso_model.specs.ScriptView.{class_of}
use Rattle.iso_model.specs.Scripts.{Class}
use Rattle.iso_plan.proofs.Growth.{class-is, drop_next}
use Rattle.iso_plan.specs.Faults.{class_name, team_names}
use Rattle.iso_plan.specs.Tree.{in_team}
use Rattle.iso_plan.proofs.names.add_names.Goals as goal

pub classes-preserved : goal.classes-preserved
classes-preserved c =
    let i = c.classes.class-index in
    let cs = c.args.classes.now in
    let class = c.class-item.result in
    let next = drop_next class cs i (omega arith) c.class-item.is in
    let team = c.args.team.now in
    let old = c.classes.names.items in
    let rest = team_names team (map class_of (drop (i + 1) cs)) in
    let name = c.in_ok-in_team.ensures ∙ sym (ap (λ (k : Class). in_team team (class_name k)) (class-is class)) in
    ap (λ (ns : List (List ℕ)). ns ++ rest) c.in_ok-push.ensures.items ∙ append_assoc old (c.in_ok-in_team.field-0 ∷ []) rest
    ∙ ap (λ (n : List ℕ). old ++ n ∷ rest) name ∙ rw next at c.classes.invariant
