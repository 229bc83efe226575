use Rattle.std.proofs.Common.{ap, ◌∙◌, subst}
use Rattle.iso_standing.specs.Standings.{TellsEnd, refusal_in}
use Rattle.iso_standing.proofs.standing.Standing.refusal.Goals as goal
use Rattle.iso_standing.specs.CodeEvents.{event_of}
use Rattle.iso_standing.specs.declared.event.Event.{Event}

pub returns-in-Step-clause-kind : goal.returns-in-Step-clause-kind
returns-in-Step-clause-kind c = λ start s like ends.
    ap (λ (e : Event). refusal_in c.args.self.now start s (event_of e)) c.in-Step.is
    ∙ c.refusal_of_step.ensures.kind start s like (subst (λ (e : Event). TellsEnd c.args.self.now s e c.args.ended) c.in-Step.is ends)

pub returns-in-Leave-clause-kind : goal.returns-in-Leave-clause-kind
returns-in-Leave-clause-kind c = λ start s like ends.
    ap (λ (e : Event). refusal_in c.args.self.now start s (event_of e)) c.in-Leave.is
    ∙ c.refusal_of_leave.ensures.kind start s like (subst (λ (e : Event). TellsEnd c.args.self.now s e c.args.ended) c.in-Leave.is ends)
