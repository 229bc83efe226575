use Rattle.std.proofs.Common.{ap, inl}
use Rattle.iso_desk.specs.Places.{line_in}
use Rattle.iso_floor.proofs.SuccessionLemmas.{ok-map, open-within}
use Rattle.iso_floor.proofs.scheduler.Scheduler.end_after_last.Goals as goal

pub returns-then-left-eq0-clause-stands : goal.returns-then-left-eq0-clause-stands
returns-then-left-eq0-clause-stands c = λ p right. c.give_to_owner.ensures.stands p (λ v e. inl e) right

pub returns-then-left-eq0-clause-ended : goal.returns-then-left-eq0-clause-ended
returns-then-left-eq0-clause-ended c =
    let places = c.args.self.now.table.places in
    ok-map c.give_to_owner.result (λ given owner opened pos none e. given (open-within places c.args.class opened) owner (ap line_in e)) c.give_to_owner.ensures.given
