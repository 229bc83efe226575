use Rattle.std.proofs.Common.{◌∙◌, ap}
use Rattle.iso_core.proofs.CoreResults.{complete}
use Rattle.iso_core.proofs.CoreRuns.{core_of}
use Rattle.iso_core.specs.Cores.{CoreView, is_complete}
use Rattle.iso_core.proofs.machine.Core.results.Goals as goal

pub returns-clause-complete : goal.returns-clause-complete
returns-clause-complete c = λ h.
    let i = c.self.inside in
    let old : CoreView = core_of i.plan.now i.world.now i.standing i.events.items in
    complete old i.results c.self.invariant.results_plan c.self.invariant.results_are (ap (λ (v : CoreView). is_complete v) c.self.view_is ∙ h)
