use Rattle.std.proofs.Common.{◌∙◌, refl}
use Rattle.iso_standing.proofs.Looks.{enter-split}
use Rattle.iso_standing.proofs.standing.Standing.refusal_of_enter.Goals as goal

pub returns-in-Some-clause-kind : goal.returns-in-Some-clause-kind
returns-in-Some-clause-kind c = λ start s like.
    enter-split c.args.self.now start s like c.args.worker c.args.node ∙ rw (c.in-Some.ensures.kind start s like) refl

pub returns-clause-kind : goal.returns-clause-kind
returns-clause-kind c = λ start s like.
    enter-split c.args.self.now start s like c.args.worker c.args.node ∙ rw (c.in_default.ensures.kind start s like) (c.lock_held.ensures start s like)
