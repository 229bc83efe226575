use Rattle.std.proofs.Common.{subst}
use Rattle.iso_core.proofs.CoreRuns.{IsRun}
use Rattle.iso_core.specs.Cores.{CoreView}
use Rattle.iso_core.proofs.machine.Core.is_of_a_run.Goals as goal

pub returns-clause-run : goal.returns-clause-run
returns-clause-run c = subst (λ (v : CoreView). IsRun v) c.self.view_is c.self.invariant.run
