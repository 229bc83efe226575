use Rattle.std.proofs.Common.{sym, subst}
use Rattle.iso_standing.specs.Standings.{LooksLike, TellsWell, after_in}
use Rattle.iso_standing.proofs.standing.Standing.take.Goals as goal
use Rattle.iso_standing.specs.CodeEvents.{event_of}
use Rattle.iso_standing.specs.declared.event.Event.{Event}

pub returns-in-Enter-clause-state : goal.returns-in-Enter-clause-state
returns-in-Enter-clause-state c = λ start s like ends.
    subst (λ (e : Event). LooksLike c.enter.new.self (after_in c.args.self.now start s (event_of e))) (sym c.in-Enter.is) (c.enter.ensures.state start s like)

pub returns-in-Leave-clause-state : goal.returns-in-Leave-clause-state
returns-in-Leave-clause-state c = λ start s like ends.
    subst (λ (e : Event). LooksLike c.leave.new.self (after_in c.args.self.now start s (event_of e))) (sym c.in-Leave.is)
    (c.leave.ensures.state start s like (subst (λ (e : Event). TellsWell c.args.self.now s e c.args.well) c.in-Leave.is ends))

pub returns-in-Shut-clause-state : goal.returns-in-Shut-clause-state
returns-in-Shut-clause-state c = λ start s like ends.
    subst (λ (e : Event). LooksLike c.shut.new.self (after_in c.args.self.now start s (event_of e))) (sym c.in-Shut.is) (c.shut.ensures.state start s like)
