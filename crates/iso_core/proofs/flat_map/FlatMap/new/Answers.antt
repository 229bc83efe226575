use Rattle.std.proofs.Common.{List, Option, length, sym, ap, ◌∙◌, subst}
use Rattle.iso_core.proofs.FlatStates.{map-first, state-first}
use Rattle.iso_core.proofs.FlatValues.{kinds-start}
use Rattle.iso_core.specs.FlatMaps.{IsFlatMap, IsFlatOf}
use Rattle.iso_suites.specs.ScriptLanguage.{scripts}
use Rattle.iso_suites.specs.SuiteStates.{suite_at}
use Rattle.iso_isolation.specs.States.{first}
use Rattle.iso_lifecycle.specs.Subjects.{started}
use Rattle.iso_locks.specs.Trays.{SavepointView}
use Rattle.iso_plan.specs.Planned.{Planned}
use Rattle.iso_core.proofs.flat_map.FlatMap.new.Goals as goal

pub invariant_of-result : goal.invariant_of-result
invariant_of-result c =
    let t = c.in_ok-tray.tray in
    let tray = c.in_ok-tray.ensures in
    subst (λ (marks : List (Option SavepointView)). IsFlatMap (record { tray = t; marks = marks })) (sym c.in_ok-marks.ensures)
    (map-first t c.len.result (c.len.ensures ∙ ap (λ (p : Planned). length p.rows) (sym tray.plan)) tray.every_value (kinds-start t (tray.start ∙ ap started (sym tray.world))))

pub returns-clause-state : goal.returns-clause-state
returns-clause-state c =
    let t = c.in_ok-tray.tray in
    let plan = c.args.plan.now in
    let world = c.args.world.now in
    subst (λ (marks : List (Option SavepointView)). IsFlatOf (record { tray = t; marks = marks }) (first scripts (suite_at plan world)).nodes) (sym c.in_ok-marks.ensures)
    (state-first plan world t c.len.result c.in_ok-tray.ensures.start)
