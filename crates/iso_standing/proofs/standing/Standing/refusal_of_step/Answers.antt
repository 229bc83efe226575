use Rattle.std.proofs.Common.{Bool, ap, ◌∙◌, refl}
use Rattle.iso_standing.proofs.Looks.{end-of-step, step-split}
use Rattle.iso_isolation.specs.Refusals as Why
use Rattle.iso_isolation.specs.Refusals.{refuse}
use Rattle.iso_standing.proofs.standing.Standing.refusal_of_step.Goals as goal

pub returns-in-Some-clause-kind : goal.returns-in-Some-clause-kind
returns-in-Some-clause-kind c = λ start s like ends.
    step-split c.args.self.now start s like c.args.worker ∙ rw (c.in-Some.ensures.kind start s like) refl

pub returns-then-ended-clause-kind : goal.returns-then-ended-clause-kind
returns-then-ended-clause-kind c = λ start s like ends.
    let none = c.in_default.ensures.kind start s like in
    step-split c.args.self.now start s like c.args.worker
    ∙ rw none (end-of-step c.args.self.now start s like c.args.worker none c.args.ended ends ∙ ap (λ (b : Bool). refuse b Why.BodyEnded) c.if-ended.true)

pub returns-clause-kind : goal.returns-clause-kind
returns-clause-kind c = λ start s like ends.
    let none = c.in_default.ensures.kind start s like in
    step-split c.args.self.now start s like c.args.worker
    ∙ rw none (end-of-step c.args.self.now start s like c.args.worker none c.args.ended ends ∙ ap (λ (b : Bool). refuse b Why.BodyEnded) c.if-ended.false)
