use Rattle.std.proofs.Common.{ℕ, ap}
use Rattle.iso_desk.specs.declared.place.Place.TheVariants.{Over}
use Rattle.iso_floor.specs.Schedulers.{SchedulerView}
use Rattle.iso_floor.proofs.PlaceLemmas.{moved-kept}
use Rattle.iso_floor.proofs.RemainderLemmas.{left-over}
use Rattle.iso_floor.proofs.SuccessionLemmas.{ok-map, turns-ended, turns-free}
use Rattle.iso_floor.proofs.scheduler.Scheduler.finish.Goals as goal

pub returns-clause-lines : goal.returns-clause-lines
returns-clause-lines c = λ n l st. c.end.ensures.lines n l (c.go_on_after.ensures.lines n l st)

pub returns-clause-places : goal.returns-clause-places
returns-clause-places c = moved-kept _ _ _ c.args.node Over c.end.ensures.places c.go_on_after.ensures.places

pub returns-clause-stands : goal.returns-clause-stands
returns-clause-stands c = λ right. c.go_on_after.ensures.stands (c.end.ensures.stands c.args.plan.now right)

pub returns-clause-closes : goal.returns-clause-closes
returns-clause-closes c = λ n e. c.end.ensures.closes n (c.go_on_after.ensures.closes n e)

pub returns-clause-turns : goal.returns-clause-turns
returns-clause-turns c =
    let p = c.args.plan.now in
    let old = c.args.self.now in
    let ended = c.end in
    let owners = ap (λ (s : SchedulerView). s.owners) ended.ensures.rest in
    let passed = ap (λ (s : SchedulerView). s.passed) ended.ensures.rest in
    ok-map c.go_on_after.result
    (λ goes turn.
    goes (turns-ended p old ended.new.self c.args.node ended.ensures.sizes ended.ensures.closes ended.ensures.places owners passed c.parent_of-class.result c.parent_of-class.ensures turn)
    (λ free. turns-free p old ended.new.self c.args.node ended.ensures.sizes ended.ensures.closes ended.ensures.places owners passed free turn))
    c.go_on_after.ensures.turns

pub returns-clause-left : goal.returns-clause-left
returns-clause-left c =
    let p = c.args.plan.now in
    let old = c.args.self.now in
    let n = c.args.node in
    let ended = c.end in
    let own : ℕ = c.parent_of-class.result in
    let owners = ap (λ (s : SchedulerView). s.owners) ended.ensures.rest in
    let passed = ap (λ (s : SchedulerView). s.passed) ended.ensures.rest in
    ok-map c.go_on_after.result
    (λ goes turn have.
    goes (turns-ended p old ended.new.self n ended.ensures.sizes ended.ensures.closes ended.ensures.places owners passed own c.parent_of-class.ensures turn)
    (left-over p old ended.new.self n own ended.ensures.places (ap (λ (s : SchedulerView). s.left) ended.ensures.rest) c.parent_of-class.ensures have))
    c.go_on_after.ensures.left
