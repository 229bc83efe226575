use Rattle.iso_floor.proofs.SuccessionLemmas.{concurrent-all, concurrent-more, concurrent-none}
use Rattle.iso_floor.proofs.nodes.next_alone.Goals as goal

pub children-init : goal.children-init
children-init c = concurrent-none c.args.plan.now c.args.children.now c.args.from

pub children-preserved : goal.children-preserved
children-preserved c = concurrent-more c.args.plan.now c.args.children.now c.args.from c.children.place c.children.invariant (c.is_concurrent.ensures.yes c.if-not-is_concurrent.false)

pub returns-then-not-is_concurrent : goal.returns-then-not-is_concurrent
returns-then-not-is_concurrent c = (c.children-test.true, c.children.invariant, λ low. c.is_concurrent.ensures.no low c.if-not-is_concurrent.true)

pub returns : goal.returns
returns c = concurrent-all c.args.plan.now c.args.children.now c.args.from c.children.place c.children-test.false c.children.invariant
