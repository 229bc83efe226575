use Rattle.std.proofs.Common.{◌≡◌, ◌<◌, ℕ, ap, length, subst, sym, ◌∙◌}
use Rattle.iso_desk.specs.Places.{place_of}
use Rattle.iso_desk.specs.declared.place.Place.TheVariants.{Open}
use Rattle.iso_floor.proofs.RemainderLemmas.{left-closed, left-ended, left-kept}
use Rattle.iso_floor.specs.Schedulers.{SchedulerView}
use Rattle.iso_floor.specs.Successions.{HasOwner}
use Rattle.iso_floor.proofs.SuccessionLemmas.{ok-always, ok-map, open-told, open-within, owner-kept, shut-told, turns-closed, turns-table}
use Rattle.iso_floor.proofs.scheduler.Scheduler.go_on_after.Goals as goal

pub returns-clause-lines : goal.returns-clause-lines
returns-clause-lines c = λ n l st. c.go_on_in.ensures.lines n l (c.end_after_last-2.ensures.lines n l st)

pub returns-clause-stands : goal.returns-clause-stands
returns-clause-stands c = λ right. c.end_after_last-2.ensures.stands c.args.plan.now (c.go_on_in.ensures.stands right)

pub returns-then-is_concurrent-clause-stands : goal.returns-then-is_concurrent-clause-stands
returns-then-is_concurrent-clause-stands c = λ right. c.end_after_last.ensures.stands c.args.plan.now right

pub returns-then-not-is_open-clause-turns : goal.returns-then-not-is_open-clause-turns
returns-then-not-is_open-clause-turns c =
    λ was free.
    turns-closed c.args.plan.now c.args.self.now c.args.class
    (λ e. shut-told c.place.result (sym c.is_open.ensures ∙ c.if-not-is_open.true) (c.place.ensures ∙ e)) was

pub returns-then-is_concurrent-clause-turns : goal.returns-then-is_concurrent-clause-turns
returns-then-is_concurrent-clause-turns c =
    let p = c.args.plan.now in
    let old = c.args.self.now in
    let last = c.end_after_last in
    ok-always last.result
    (λ was free. turns-table p old last.new.self last.ensures.rest last.ensures.sizes last.ensures.closes last.ensures.places (free (c.is_concurrent.ensures.yes c.if-is_concurrent.true)))

pub returns-clause-turns : goal.returns-clause-turns
returns-clause-turns c =
    let p = c.args.plan.now in
    let old = c.args.self.now in
    let n = c.args.class in
    let mid = c.go_on_in.new.self in
    let last = c.end_after_last-2 in
    let opened : place_of old.table.places n ≡ Open = sym c.place.ensures ∙ open-told c.place.result (sym c.is_open.ensures ∙ c.if-not-is_open.false) in
    ok-always last.result
    (λ was free.
    let low : n < length p.rows = subst (λ (k : ℕ). n < k) was.places_are (open-within old.table.places n opened) in
    turns-table p mid last.new.self last.ensures.rest last.ensures.sizes last.ensures.closes last.ensures.places (c.in_ok-go_on_in.ensures.turns low (was.owned n opened) was))

pub returns-then-not-is_open-clause-left : goal.returns-then-not-is_open-clause-left
returns-then-not-is_open-clause-left c =
    λ turn have.
    left-closed c.args.plan.now c.args.self.now c.args.class
    (λ e. shut-told c.place.result (sym c.is_open.ensures ∙ c.if-not-is_open.true) (c.place.ensures ∙ e)) have

pub returns-then-is_concurrent-clause-left : goal.returns-then-is_concurrent-clause-left
returns-then-is_concurrent-clause-left c =
    let p = c.args.plan.now in
    let old = c.args.self.now in
    let n = c.args.class in
    let last = c.end_after_last in
    let opened : place_of old.table.places n ≡ Open = sym c.place.ensures ∙ open-told c.place.result (sym c.is_open.ensures ∙ c.if-not-is_open.false) in
    ok-map last.result
    (λ ends turn have.
    left-ended p old last.new.self n (ap (λ (s : SchedulerView). s.left) last.ensures.rest) last.ensures.places (λ pos e none. ends (turn.owned n opened) e pos none) have)
    last.ensures.ended

pub returns-clause-left : goal.returns-clause-left
returns-clause-left c =
    let p = c.args.plan.now in
    let old = c.args.self.now in
    let n = c.args.class in
    let goes = c.go_on_in in
    let mid = goes.new.self in
    let last = c.end_after_last-2 in
    let opened : place_of old.table.places n ≡ Open = sym c.place.ensures ∙ open-told c.place.result (sym c.is_open.ensures ∙ c.if-not-is_open.false) in
    ok-map last.result
    (λ ends turn have.
    let owner : HasOwner mid.owners mid.table.workers n =
    owner-kept n old mid (ap (λ (s : SchedulerView). s.owners) goes.ensures.rest) goes.ensures.sizes (turn.owned n opened) in
    left-ended p mid last.new.self n (ap (λ (s : SchedulerView). s.left) last.ensures.rest) last.ensures.places (λ pos e none. ends owner e pos none)
    (left-kept (λ m. m ≡ n) p old mid (ap (λ (s : SchedulerView). s.left) goes.ensures.rest) goes.ensures.places have))
    last.ensures.ended
