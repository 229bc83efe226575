use Rattle.std.proofs.Common.{refl}
use Rattle.iso_standing.proofs.Looks.{not-open-is, shut-is, tested}
use Rattle.iso_isolation.specs.Refusals as Why
use Rattle.iso_standing.proofs.standing.Standing.refusal_of_shut.Goals as goal

pub returns-in-Some-clause-kind : goal.returns-in-Some-clause-kind
returns-in-Some-clause-kind c = λ start s like.
    shut-is c.args.self.now start s like c.args.worker c.args.node (c.in-Some.ensures.kinds start s like) refl refl refl refl

pub returns-then-not_class-clause-kind : goal.returns-then-not_class-clause-kind
returns-then-not_class-clause-kind c = λ start s like.
    shut-is c.args.self.now start s like c.args.worker c.args.node (c.in_default.ensures.kinds start s like)
    (tested Why.NotClass (c.not_class.ensures.kind start s like) c.if-not_class.true) refl refl refl

pub returns-then-not-is_at_rest-clause-kind : goal.returns-then-not-is_at_rest-clause-kind
returns-then-not-is_at_rest-clause-kind c = λ start s like.
    shut-is c.args.self.now start s like c.args.worker c.args.node (c.in_default.ensures.kinds start s like)
    (tested Why.NotClass (c.not_class.ensures.kind start s like) c.if-not_class.false)
    (not-open-is c.args.self.now start s like c.args.node (c.in_default.ensures.node refl) c.phase.ensures c.is_at_rest.ensures c.if-not-is_at_rest.true)
    refl refl

pub returns-then-not_owner-clause-kind : goal.returns-then-not_owner-clause-kind
returns-then-not_owner-clause-kind c = λ start s like.
    shut-is c.args.self.now start s like c.args.worker c.args.node (c.in_default.ensures.kinds start s like)
    (tested Why.NotClass (c.not_class.ensures.kind start s like) c.if-not_class.false)
    (not-open-is c.args.self.now start s like c.args.node (c.in_default.ensures.node refl) c.phase.ensures c.is_at_rest.ensures c.if-not-is_at_rest.false)
    (tested Why.NotOwner (c.not_owner.ensures start s like) c.if-not_owner.true) refl

pub returns-then-children_left-clause-kind : goal.returns-then-children_left-clause-kind
returns-then-children_left-clause-kind c = λ start s like.
    shut-is c.args.self.now start s like c.args.worker c.args.node (c.in_default.ensures.kinds start s like)
    (tested Why.NotClass (c.not_class.ensures.kind start s like) c.if-not_class.false)
    (not-open-is c.args.self.now start s like c.args.node (c.in_default.ensures.node refl) c.phase.ensures c.is_at_rest.ensures c.if-not-is_at_rest.false)
    (tested Why.NotOwner (c.not_owner.ensures start s like) c.if-not_owner.false) (tested Why.ChildrenLeft (c.children_left.ensures start s like) c.if-children_left.true)

pub returns-clause-kind : goal.returns-clause-kind
returns-clause-kind c = λ start s like.
    shut-is c.args.self.now start s like c.args.worker c.args.node (c.in_default.ensures.kinds start s like)
    (tested Why.NotClass (c.not_class.ensures.kind start s like) c.if-not_class.false)
    (not-open-is c.args.self.now start s like c.args.node (c.in_default.ensures.node refl) c.phase.ensures c.is_at_rest.ensures c.if-not-is_at_rest.false)
    (tested Why.NotOwner (c.not_owner.ensures start s like) c.if-not_owner.false) (tested Why.ChildrenLeft (c.children_left.ensures start s like) c.if-children_left.false)
