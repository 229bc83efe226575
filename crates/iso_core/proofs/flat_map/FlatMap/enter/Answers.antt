use Rattle.std.proofs.Common.{◌≡◌, ℕ, ◌<◌, Some, length, set, sym, ap, ◌∙◌, subst}
use Rattle.iso_core.proofs.FlatStates.{map-entered, state-entered}
use Rattle.iso_core.specs.FlatMaps.{FlatView, IsFlatMap, IsFlatOf, IsInnermost}
use Rattle.iso_suites.specs.ScriptLanguage.{scripts}
use Rattle.iso_suites.specs.SuiteStates.{suite_at}
use Rattle.iso_isolation.specs.Events as E
use Rattle.iso_locks.specs.Trays.{SavepointView}
use Rattle.iso_plan.specs.Paths.{IsTree}
use Rattle.iso_plan.specs.Planned.{Planned}
use Rattle.iso_plan.specs.RowView.{tree_of}
use Rattle.iso_core.proofs.flat_map.FlatMap.enter.Goals as goal

pub invariant_of-self : goal.invariant_of-self
invariant_of-self c =
    let v : FlatView = record { tray = c.self.inside.tray; marks = c.self.inside.marks.items } in
    let n = c.args.node in
    let count : length v.marks ≡ length c.args.self.now.tray.plan.rows = c.self.invariant.fits ∙ ap (λ (u : FlatView). length u.tray.plan.rows) c.self.view_is in
    let within : n < length v.marks = subst (λ (most : ℕ). n < most) (sym count) c.requires.within in
    let inner : IsInnermost v n = subst (λ (u : FlatView). IsInnermost u n) (sym c.self.view_is) c.requires.innermost in
    subst (λ (m : SavepointView). IsFlatMap (record { tray = v.tray; marks = set v.marks n (Some m) })) (sym c.in_ok-mark.ensures)
    (map-entered v c.self.invariant n within inner)

pub returns-clause-state : goal.returns-clause-state
returns-clause-state c = λ s of.
    let v : FlatView = record { tray = c.self.inside.tray; marks = c.self.inside.marks.items } in
    let n = c.args.node in
    let count : length v.marks ≡ length c.args.self.now.tray.plan.rows = c.self.invariant.fits ∙ ap (λ (u : FlatView). length u.tray.plan.rows) c.self.view_is in
    let within : n < length v.marks = subst (λ (most : ℕ). n < most) (sym count) c.requires.within in
    let tree : IsTree (tree_of v.tray.plan) = subst (λ (p : Planned). IsTree (tree_of p)) c.plan.ensures c.nodes_are_a_tree.ensures in
    let before : IsFlatOf v s = subst (λ (u : FlatView). IsFlatOf u s) (sym c.self.view_is) of in
    subst (λ (u : FlatView). IsFlatOf (record { tray = v.tray; marks = set v.marks n (Some c.in_ok-mark.mark) }) (E.entering scripts (suite_at u.tray.plan u.tray.world) n s)) c.self.view_is
    (subst (λ (m : SavepointView). IsFlatOf (record { tray = v.tray; marks = set v.marks n (Some m) }) (E.entering scripts (suite_at v.tray.plan v.tray.world) n s)) (sym c.in_ok-mark.ensures)
    (state-entered v c.self.invariant n within tree s before c.requires.inner))
