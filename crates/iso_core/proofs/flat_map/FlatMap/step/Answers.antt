use Rattle.std.proofs.Common.{◌≡◌, sym, ap, ◌∙◌, subst}
use Rattle.std.proofs.lemmas.Result.{on_ok_weaker}
use Rattle.iso_core.proofs.FlatStates.{stage-stepped, stands-flat, state-stepped}
use Rattle.iso_core.proofs.FlatValues.{flat-keys}
use Rattle.iso_core.specs.FlatMaps.{FlatView, IsFlatMap}
use Rattle.iso_lifecycle.specs.BodyViews.{stage_of_body, subject_of}
use Rattle.iso_lifecycle.specs.Subjects.{rights_of_subject}
use Rattle.iso_locks.specs.Flats.{flat}
use Rattle.iso_locks.specs.Trays.{content, has_value}
use Rattle.iso_model.specs.Bodies.{body_step, going}
use Rattle.iso_model.specs.Rights.{Rights}
use Rattle.iso_model.specs.Touch.{HasKeys}
use Rattle.iso_plan.specs.NodeChains.{node_rights}
use Rattle.iso_plan.specs.Paths.{IsTree}
use Rattle.iso_plan.specs.Planned.{Planned}
use Rattle.iso_plan.specs.RowView.{tree_of}
use Rattle.iso_core.proofs.flat_map.FlatMap.step.Goals as goal

pub step-requires-clause-keys : goal.step-requires-clause-keys
step-requires-clause-keys c =
    let v : FlatView = c.args.self.now in
    let is : IsFlatMap v = subst IsFlatMap c.self.view_is c.self.invariant in
    let n = (subject_of c.args.body.now).node in
    let tree : IsTree (tree_of v.tray.plan) = subst (λ (p : Planned). IsTree (tree_of p)) (c.plan.ensures ∙ ap (λ (u : FlatView). u.tray.plan) c.self.view_is) c.nodes_are_a_tree.ensures in
    let rights_are : rights_of_subject (subject_of c.args.body.now) ≡ node_rights (tree_of v.tray.plan) n = ap rights_of_subject c.requires.of_map in
    subst (λ (r : Rights). HasKeys r (content v.tray) (has_value v.tray)) (sym rights_are) (flat-keys v.tray n tree is.flat is.kinds)

pub step-requires-clause-stands : goal.step-requires-clause-stands
step-requires-clause-stands c =
    let v : FlatView = c.args.self.now in
    let is : IsFlatMap v = subst IsFlatMap c.self.view_is c.self.invariant in
    let n = (subject_of c.args.body.now).node in
    let tree : IsTree (tree_of v.tray.plan) = subst (λ (p : Planned). IsTree (tree_of p)) (c.plan.ensures ∙ ap (λ (u : FlatView). u.tray.plan) c.self.view_is) c.nodes_are_a_tree.ensures in
    let rights_are : rights_of_subject (subject_of c.args.body.now) ≡ node_rights (tree_of v.tray.plan) n = ap rights_of_subject c.requires.of_map in
    stands-flat c.args.body.now v.tray n tree is.flat rights_are c.requires.stands

pub returns-clause-stage : goal.returns-clause-stage
returns-clause-stage c =
    let v : FlatView = c.args.self.now in
    let u : FlatView = c.step.new.touch in
    let b = c.args.body.now in
    let is : IsFlatMap v = subst IsFlatMap c.self.view_is c.self.invariant in
    let n = (subject_of b).node in
    let tree : IsTree (tree_of v.tray.plan) = subst (λ (p : Planned). IsTree (tree_of p)) (c.plan.ensures ∙ ap (λ (w : FlatView). w.tray.plan) c.self.view_is) c.nodes_are_a_tree.ensures in
    let rights_are : rights_of_subject (subject_of b) ≡ node_rights (tree_of v.tray.plan) n = ap rights_of_subject c.requires.of_map in
    on_ok_weaker c.step.result
    (λ step. stage-stepped v u tree is.flat c.step.ensures.goes_on n (stage_of_body b) (stage_of_body c.step.new.self)
    (step ∙ ap (λ (r : Rights). body_step r (going (stage_of_body b) (content v.tray))) rights_are)
    ∙ ap (λ (r : Rights). (body_step r (going (stage_of_body b) (flat v.tray))).stage) (sym rights_are))
    c.step.ensures.step

pub returns-clause-state : goal.returns-clause-state
returns-clause-state c =
    let v : FlatView = c.args.self.now in
    let u : FlatView = c.step.new.touch in
    let b = c.args.body.now in
    let is : IsFlatMap v = subst IsFlatMap c.self.view_is c.self.invariant in
    let n = (subject_of b).node in
    let tree : IsTree (tree_of v.tray.plan) = subst (λ (p : Planned). IsTree (tree_of p)) (c.plan.ensures ∙ ap (λ (w : FlatView). w.tray.plan) c.self.view_is) c.nodes_are_a_tree.ensures in
    let rights_are : rights_of_subject (subject_of b) ≡ node_rights (tree_of v.tray.plan) n = ap rights_of_subject c.requires.of_map in
    on_ok_weaker c.step.result
    (λ step s of. state-stepped v u tree is.flat c.step.ensures.goes_on n (stage_of_body b) (stage_of_body c.step.new.self)
    (step ∙ ap (λ (r : Rights). body_step r (going (stage_of_body b) (content v.tray))) rights_are) s of)
    c.step.ensures.step
