use Rattle.std.proofs.Common.{sym, ap, ◌∙◌}
use Rattle.iso_core.proofs.CoreRuns.{core_of}
use Rattle.iso_core.specs.Cores.{CoreView, is_complete, state_in}
use Rattle.iso_suites.specs.PlanSuites.{suite_of}
use Rattle.iso_isolation.specs.Runs as Runs
use Rattle.iso_lifecycle.specs.Subjects.{started}
use Rattle.iso_plan.specs.Planned.{Planned}
use Rattle.iso_plan.specs.RowView.{tree_of}
use Rattle.iso_core.proofs.machine.Core.is_complete.Goals as goal

pub returns : goal.returns
returns c =
    let i = c.self.inside in
    let old : CoreView = core_of i.plan.now i.world.now i.standing i.events.items in
    sym (c.is_complete.ensures (started old.world) (state_in old) c.self.invariant.stands)
    ∙ ap (λ (p : Planned). Runs.is_complete (suite_of (tree_of p) p.settings (started old.world)) (state_in old)) c.self.invariant.standing_plan
    ∙ ap (λ (v : CoreView). is_complete v) c.self.view_is
