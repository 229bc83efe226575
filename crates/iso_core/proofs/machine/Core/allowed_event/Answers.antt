use Rattle.iso_core.proofs.Progressing.{allowed-some, allowed-tells}
use Rattle.iso_core.proofs.machine.Core.allowed_event.Goals as goal

pub returns-in-Some-clause-some : goal.returns-in-Some-clause-some
returns-in-Some-clause-some c = λ manned. allowed-some c.args.self.now c.is_of_a_run.ensures.tree c.is_of_a_run.ensures.run manned c.in-Some.event c.in-Some.ensures.allowed

pub returns-in-Some-shutting-clause-some : goal.returns-in-Some-shutting-clause-some
returns-in-Some-shutting-clause-some c = λ manned. allowed-some c.args.self.now c.is_of_a_run.ensures.tree c.is_of_a_run.ensures.run manned c.in-Some-shutting.event c.in-Some-shutting.ensures.allowed

pub returns-clause-some : goal.returns-clause-some
returns-clause-some c = λ manned. allowed-tells c.args.self.now c.is_of_a_run.ensures.tree c.is_of_a_run.ensures.run manned c.entering.result c.entering.ensures.allowed
    (λ none. record { bodies = c.going_on.ensures.none c.in_default.is; shuts = c.shutting.ensures.none c.in_default-shutting.is; enters = c.entering.ensures.none none })
