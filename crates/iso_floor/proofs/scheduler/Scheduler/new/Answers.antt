use Rattle.std.proofs.Common.{◌≡◌, ◌<◌, ℕ, None, Some, ap, subst, sym, ◌∙◌}
use Rattle.iso_floor.specs.Parties.{owner_of}
use Rattle.iso_floor.specs.Schedulers.{SchedulerView}
use Rattle.iso_floor.proofs.PartyLemmas.{only-owner}
use Rattle.iso_desk.specs.declared.place.Place.TheVariants.{Open}
use Rattle.iso_floor.proofs.PlaceLemmas.{moved-first}
use Rattle.iso_floor.proofs.scheduler.Scheduler.new.Goals as goal

pub returns-clause-lines : goal.returns-clause-lines
returns-clause-lines c = λ tree n l st. c.in_ok-scheduler.ensures.lines tree n l (c.open.ensures.lines n l st)

pub returns-clause-places : goal.returns-clause-places
returns-clause-places c = moved-first _ _ 0 Open c.in_ok-scheduler.ensures.places c.open.ensures.places

pub returns-clause-stands : goal.returns-clause-stands
returns-clause-stands c =
    let closed = c.in_ok-scheduler.ensures in
    c.open.ensures.stands (λ v e. let wrong : None ≡ Some v = sym (closed.owners 0) ∙ e in absurd (cc)) (closed.stands c.args.plan.now)

pub returns-clause-owners : goal.returns-clause-owners
returns-clause-owners c =
    let closed = c.in_ok-scheduler.ensures in
    λ n v e.
    let same = ap (λ (s : SchedulerView). owner_of s.owners n) c.open.ensures.rest in
    only-owner c.in_ok-scheduler.scheduler.owners closed.owners 0 0 n v (sym same ∙ e)

pub returns-clause-root : goal.returns-clause-root
returns-clause-root c =
    let closed = c.in_ok-scheduler.ensures in
    λ some. c.open.ensures.opened (subst (λ (k : ℕ). 0 < k) (sym closed.sizes.nodes_are) some)

pub returns-clause-turns : goal.returns-clause-turns
returns-clause-turns c =
    let closed = c.in_ok-scheduler.ensures in
    λ some manned. c.in_ok-open.ensures.turns some (subst (λ (k : ℕ). 0 < k) (sym closed.sizes.workers_are) manned) closed.turns

pub returns-clause-left : goal.returns-clause-left
returns-clause-left c =
    let closed = c.in_ok-scheduler.ensures in
    λ some manned. c.in_ok-open.ensures.left some (subst (λ (k : ℕ). 0 < k) (sym closed.sizes.workers_are) manned) closed.turns closed.left
