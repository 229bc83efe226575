use Rattle.std.proofs.Common.{refl}
use Rattle.iso_standing.proofs.Looks.{before-is, tested}
use Rattle.iso_isolation.specs.Refusals as Why
use Rattle.iso_standing.proofs.standing.Standing.refusal_before_locks.Goals as goal

pub returns-in-Some-clause-kind : goal.returns-in-Some-clause-kind
returns-in-Some-clause-kind c = λ start s like.
    before-is c.args.self.now start s like c.args.worker c.args.node (c.in-Some.ensures.kinds start s like) refl refl refl refl

pub returns-then-parent_closed-clause-kind : goal.returns-then-parent_closed-clause-kind
returns-then-parent_closed-clause-kind c = λ start s like.
    before-is c.args.self.now start s like c.args.worker c.args.node (c.in_default.ensures.kinds start s like)
    (tested Why.ParentClosed (c.parent_closed.ensures start s like) c.if-parent_closed.true) refl refl refl

pub returns-then-already_entered-clause-kind : goal.returns-then-already_entered-clause-kind
returns-then-already_entered-clause-kind c = λ start s like.
    before-is c.args.self.now start s like c.args.worker c.args.node (c.in_default.ensures.kinds start s like)
    (tested Why.ParentClosed (c.parent_closed.ensures start s like) c.if-parent_closed.false) (tested Why.AlreadyEntered (c.already_entered.ensures.kind start s like) c.if-already_entered.true)
    refl refl

pub returns-then-not_owner_of_parent-clause-kind : goal.returns-then-not_owner_of_parent-clause-kind
returns-then-not_owner_of_parent-clause-kind c = λ start s like.
    before-is c.args.self.now start s like c.args.worker c.args.node (c.in_default.ensures.kinds start s like)
    (tested Why.ParentClosed (c.parent_closed.ensures start s like) c.if-parent_closed.false) (tested Why.AlreadyEntered (c.already_entered.ensures.kind start s like) c.if-already_entered.false)
    (tested Why.NotOwner (c.not_owner_of_parent.ensures start s like) c.if-not_owner_of_parent.true) refl

pub returns-then-earlier_sibling-clause-kind : goal.returns-then-earlier_sibling-clause-kind
returns-then-earlier_sibling-clause-kind c = λ start s like.
    before-is c.args.self.now start s like c.args.worker c.args.node (c.in_default.ensures.kinds start s like)
    (tested Why.ParentClosed (c.parent_closed.ensures start s like) c.if-parent_closed.false) (tested Why.AlreadyEntered (c.already_entered.ensures.kind start s like) c.if-already_entered.false)
    (tested Why.NotOwner (c.not_owner_of_parent.ensures start s like) c.if-not_owner_of_parent.false) (tested Why.EarlierSibling (c.earlier_sibling.ensures start s like) c.if-earlier_sibling.true)

pub returns-clause-kind : goal.returns-clause-kind
returns-clause-kind c = λ start s like.
    before-is c.args.self.now start s like c.args.worker c.args.node (c.in_default.ensures.kinds start s like)
    (tested Why.ParentClosed (c.parent_closed.ensures start s like) c.if-parent_closed.false) (tested Why.AlreadyEntered (c.already_entered.ensures.kind start s like) c.if-already_entered.false)
    (tested Why.NotOwner (c.not_owner_of_parent.ensures start s like) c.if-not_owner_of_parent.false) (tested Why.EarlierSibling (c.earlier_sibling.ensures start s like) c.if-earlier_sibling.false)
