use Rattle.std.proofs.Common.{◌≡◌, ℕ, ◌<◌, Option, Some, None, get_or, length, set, sym, ap, ◌∙◌, subst}
use Rattle.std.proofs.lemmas.List.{get_or_default}
use Rattle.iso_core.proofs.FlatStates.{map-left, state-left}
use Rattle.iso_core.specs.FlatMaps.{FlatView, IsFlatMap, IsFlatOf, IsInnermost, mark_at}
use Rattle.iso_suites.specs.ScriptLanguage.{scripts}
use Rattle.iso_suites.specs.SuiteStates.{suite_at}
use Rattle.iso_isolation.specs.Events as E
use Rattle.iso_isolation.specs.Restoring.{finishing}
use Rattle.iso_locks.specs.Trays.{SavepointView, TrayView}
use Rattle.iso_plan.specs.Paths.{IsTree}
use Rattle.iso_plan.specs.Planned.{Planned}
use Rattle.iso_plan.specs.RowView.{tree_of}
use Rattle.iso_core.proofs.flat_map.FlatMap.leave.Goals as goal

pub invariant_of-self : goal.invariant_of-self
invariant_of-self c =
    let v : FlatView = record { tray = c.self.inside.tray; marks = c.self.inside.marks.items } in
    let n = c.args.node in
    let count : length v.marks ≡ length c.args.self.now.tray.plan.rows = c.self.invariant.fits ∙ ap (λ (u : FlatView). length u.tray.plan.rows) c.self.view_is in
    let within : n < length v.marks = subst (λ (most : ℕ). n < most) (sym count) c.requires.within in
    let there : get_or v.marks n None ≡ get_or v.marks n c.index_mut.result.now = get_or_default v.marks n None c.index_mut.result.now within in
    let at : mark_at v.marks n ≡ Some c.in-Some.mark = cc (there, c.index_mut.ensures.value, c.in-Some.ensures.value) in
    let inner : IsInnermost v n = subst (λ (u : FlatView). IsInnermost u n) (sym c.self.view_is) c.requires.innermost in
    subst (λ (o : Option SavepointView). IsFlatMap (record { tray = c.undo.new.self; marks = set v.marks n o })) (sym c.in-Some.ensures.after)
    (subst (λ (t : TrayView). IsFlatMap (record { tray = t; marks = set v.marks n None })) (sym c.undo.ensures) (map-left v c.self.invariant n c.in-Some.mark at inner))

pub returns-in-Some-clause-state : goal.returns-in-Some-clause-state
returns-in-Some-clause-state c = λ s r of.
    let v : FlatView = record { tray = c.self.inside.tray; marks = c.self.inside.marks.items } in
    let n = c.args.node in
    let count : length v.marks ≡ length c.args.self.now.tray.plan.rows = c.self.invariant.fits ∙ ap (λ (u : FlatView). length u.tray.plan.rows) c.self.view_is in
    let within : n < length v.marks = subst (λ (most : ℕ). n < most) (sym count) c.requires.within in
    let there : get_or v.marks n None ≡ get_or v.marks n c.index_mut.result.now = get_or_default v.marks n None c.index_mut.result.now within in
    let at : mark_at v.marks n ≡ Some c.in-Some.mark = cc (there, c.index_mut.ensures.value, c.in-Some.ensures.value) in
    let tree : IsTree (tree_of v.tray.plan) = subst (λ (p : Planned). IsTree (tree_of p)) c.plan.ensures c.nodes_are_a_tree.ensures in
    let before : IsFlatOf v s = subst (λ (u : FlatView). IsFlatOf u s) (sym c.self.view_is) of in
    subst (λ (u : FlatView). IsFlatOf (record { tray = c.undo.new.self; marks = set v.marks n c.take.new.self }) (finishing scripts (suite_at u.tray.plan u.tray.world) n r s)) c.self.view_is
    (subst (λ (o : Option SavepointView). IsFlatOf (record { tray = c.undo.new.self; marks = set v.marks n o }) (finishing scripts (suite_at v.tray.plan v.tray.world) n r s))
    (sym c.in-Some.ensures.after)
    (subst (λ (t : TrayView). IsFlatOf (record { tray = t; marks = set v.marks n None }) (finishing scripts (suite_at v.tray.plan v.tray.world) n r s)) (sym c.undo.ensures)
    (state-left v c.self.invariant n c.in-Some.mark at tree s before r)))
