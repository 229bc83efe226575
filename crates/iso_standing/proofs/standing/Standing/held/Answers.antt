use Rattle.std.proofs.Common.{ap, ◌∙◌}
use Rattle.iso_isolation.specs.States.{is_held}
use Rattle.iso_standing.specs.Phases.{bare}
use Rattle.iso_standing.specs.Standings.{Standing, phase_at}
use Rattle.iso_standing.proofs.standing.Standing.held.Goals as goal

pub returns-clause-plan : goal.returns-clause-plan
returns-clause-plan c = c.self.invariant.2.plan ∙ ap (λ (v : Standing). v.plan) c.self.view_is

pub returns-clause-held : goal.returns-clause-held
returns-clause-held c = λ n. c.self.invariant.2.held n ∙ ap (λ (v : Standing). is_held (bare (phase_at v n))) c.self.view_is
