use Rattle.std.proofs.Common.{◌≡◌, ◌<◌, ℕ, List, Option, Some, ap, length, refl, set, subst, sym, ◌∙◌}
use Rattle.iso_desk.specs.declared.line.Line.TheVariants.{Key}
use Rattle.iso_floor.specs.Schedulers.{IsFor, IsMoved, KeepsSizes, SchedulerView}
use Rattle.iso_floor.specs.Successions.{HasOwner}
use Rattle.iso_desk.specs.declared.place.Place.TheVariants.{Closed, Open}
use Rattle.iso_floor.proofs.PlaceLemmas.{moved-kept}
use Rattle.iso_floor.specs.Parties.{StandRightly}
use Rattle.iso_floor.proofs.PartyLemmas.{stand-owners}
use Rattle.iso_desk.specs.Places.{StandsIn, TableView, place_of}
use Rattle.iso_floor.specs.Postings.{ClosesNone}
use Rattle.iso_floor.proofs.PostingLemmas.{closes-put, put-there}
use Rattle.iso_floor.proofs.RemainderLemmas.{left-ended, left-kept, left-opened}
use Rattle.iso_floor.proofs.SuccessionLemmas.{ok-always, ok-map, owner-kept, owner-there, turns-opened, turns-table}
use Rattle.iso_floor.proofs.scheduler.Scheduler.open.Goals as goal

pub returns-clause-lines : goal.returns-clause-lines
returns-clause-lines c =
    λ n l st.
    subst (λ (s : SchedulerView). StandsIn s.table.places (Key l) n) c.own.ensures (c.put.ensures.lines n l (c.go_on_in.ensures.lines n l (c.end_after_last.ensures.lines n l st)))

pub returns-clause-places : goal.returns-clause-places
returns-clause-places c =
    subst (λ (s : SchedulerView). IsMoved c.args.class Open s.table.places c.end_after_last.new.self.table.places) c.own.ensures
    (moved-kept _ _ _ c.args.class Open (moved-kept _ _ _ c.args.class Open c.put.ensures.places c.go_on_in.ensures.places) c.end_after_last.ensures.places)

pub returns-clause-stands : goal.returns-clause-stands
returns-clause-stands c =
    let p = c.args.plan.now in
    let old = c.args.self.now in
    λ one right.
    c.end_after_last.ensures.stands p
    (c.go_on_in.ensures.stands (c.put.ensures.stands p
    (subst (λ (s : SchedulerView). StandRightly p s.owners s.table.places) (sym c.own.ensures) (stand-owners p old.owners c.args.class c.args.owner one old.table.places right))))

pub returns-clause-closes : goal.returns-clause-closes
returns-clause-closes c =
    let n = c.args.class in
    let owned = c.own.new.self in
    let put_open : ClosesNone owned.table.places c.put.new.self.table.places =
    subst (λ (s : SchedulerView). ClosesNone owned.table.places s.table.places) (sym c.put.ensures.step) (closes-put owned.table n Open (λ e. cc)) in
    λ m e. ap (λ (s : SchedulerView). place_of s.table.places m) (sym c.own.ensures) ∙ put_open m (c.go_on_in.ensures.closes m (c.end_after_last.ensures.closes m e))

pub returns-clause-opened : goal.returns-clause-opened
returns-clause-opened c =
    let n = c.args.class in
    let owned = c.own.new.self in
    λ low e.
    let within : n < length owned.table.places = subst (λ (s : SchedulerView). n < length s.table.places) (sym c.own.ensures) low in
    put-there owned.table n Open (λ f. cc) within (subst (λ (s : SchedulerView). place_of s.table.places n ≡ Closed) c.put.ensures.step (c.go_on_in.ensures.closes n (c.end_after_last.ensures.closes n e)))

pub returns-clause-turns : goal.returns-clause-turns
returns-clause-turns c =
    let p = c.args.plan.now in
    let old = c.args.self.now in
    let n = c.args.class in
    let o = c.args.owner in
    let owned = c.own.new.self in
    let put = c.put.new.self in
    let owners : put.owners ≡ set old.owners n (Some o) = ap (λ (s : SchedulerView). s.owners) c.put.ensures.step ∙ ap (λ (s : SchedulerView). s.owners) c.own.ensures in
    let passed : put.passed ≡ old.passed = ap (λ (s : SchedulerView). s.passed) c.put.ensures.step ∙ ap (λ (s : SchedulerView). s.passed) c.own.ensures in
    let workers : owned.table.workers ≡ old.table.workers = ap (λ (s : SchedulerView). s.table.workers) c.own.ensures in
    let same : owned.table ≡ old.table = ap (λ (s : SchedulerView). s.table) c.own.ensures in
    let sizes : KeepsSizes old put = λ nodes crew f. c.put.ensures.sizes nodes crew (subst (λ (s : SchedulerView). IsFor nodes crew s) (sym c.own.ensures) (record { nodes_are = f.nodes_are; workers_are = f.workers_are })) in
    let closes : ClosesNone old.table.places put.table.places =
    λ m e. ap (λ (t : TableView). place_of t.places m) (sym same)
    ∙ subst (λ (s : SchedulerView). ClosesNone owned.table.places s.table.places) (sym c.put.ensures.step) (closes-put owned.table n Open (λ f. cc)) m e in
    let moves : IsMoved n Open old.table.places put.table.places = subst (λ (t : TableView). IsMoved n Open t.places put.table.places) same c.put.ensures.places in
    let mid = c.go_on_in.new.self in
    let last = c.end_after_last in
    ok-always last.result
    (λ low known turn.
    let after = turns-opened p old put n o sizes closes moves owners passed low known turn in
    let crew : put.table.workers ≡ old.table.workers = (sizes (length old.table.places) old.table.workers (record { nodes_are = refl; workers_are = refl })).workers_are in
    let owner : HasOwner put.owners put.table.workers n =
    subst (λ (os : List (Option ℕ)). HasOwner os put.table.workers n) (sym owners)
    (owner-there old.owners n o put.table.workers (subst (λ (k : ℕ). n < k) (sym turn.owners_are) low) (subst (λ (k : ℕ). o < k) (sym crew) known)) in
    turns-table p mid last.new.self last.ensures.rest last.ensures.sizes last.ensures.closes last.ensures.places (c.in_ok-go_on_in.ensures.turns low owner after))

pub returns-clause-left : goal.returns-clause-left
returns-clause-left c =
    let p = c.args.plan.now in
    let old = c.args.self.now in
    let n = c.args.class in
    let o = c.args.owner in
    let owned = c.own.new.self in
    let put = c.put.new.self in
    let goes = c.go_on_in in
    let mid = goes.new.self in
    let last = c.end_after_last in
    let owners : put.owners ≡ set old.owners n (Some o) = ap (λ (s : SchedulerView). s.owners) c.put.ensures.step ∙ ap (λ (s : SchedulerView). s.owners) c.own.ensures in
    let left : put.left ≡ old.left = ap (λ (s : SchedulerView). s.left) c.put.ensures.step ∙ ap (λ (s : SchedulerView). s.left) c.own.ensures in
    let same : owned.table ≡ old.table = ap (λ (s : SchedulerView). s.table) c.own.ensures in
    let moves : IsMoved n Open old.table.places put.table.places = subst (λ (t : TableView). IsMoved n Open t.places put.table.places) same c.put.ensures.places in
    let crew : put.table.workers ≡ old.table.workers =
    (c.put.ensures.sizes (length old.table.places) old.table.workers
    (subst (λ (s : SchedulerView). IsFor (length old.table.places) old.table.workers s) (sym c.own.ensures) (record { nodes_are = refl; workers_are = refl }))).workers_are in
    ok-map last.result
    (λ ends low known turn have.
    let owner : HasOwner put.owners put.table.workers n =
    subst (λ (os : List (Option ℕ)). HasOwner os put.table.workers n) (sym owners)
    (owner-there old.owners n o put.table.workers (subst (λ (k : ℕ). n < k) (sym turn.owners_are) low) (subst (λ (k : ℕ). o < k) (sym crew) known)) in
    let kept : HasOwner mid.owners mid.table.workers n = owner-kept n put mid (ap (λ (s : SchedulerView). s.owners) goes.ensures.rest) goes.ensures.sizes owner in
    left-ended p mid last.new.self n (ap (λ (s : SchedulerView). s.left) last.ensures.rest) last.ensures.places (λ pos e none. ends kept e pos none)
    (left-kept (λ m. m ≡ n) p put mid (ap (λ (s : SchedulerView). s.left) goes.ensures.rest) goes.ensures.places (left-opened p old put n left moves have)))
    last.ensures.ended

pub returns-clause-sizes : goal.returns-clause-sizes
returns-clause-sizes c =
    λ nodes crew f.
    c.end_after_last.ensures.sizes nodes crew
    (c.go_on_in.ensures.sizes nodes crew
    (c.put.ensures.sizes nodes crew (subst (λ (s : SchedulerView). IsFor nodes crew s) (sym c.own.ensures) (record { nodes_are = f.nodes_are; workers_are = f.workers_are }))))

pub returns-in_err-go_on_in-clause-stands : goal.returns-in_err-go_on_in-clause-stands
returns-in_err-go_on_in-clause-stands c =
    let p = c.args.plan.now in
    let old = c.args.self.now in
    λ one right.
    c.go_on_in.ensures.stands (c.put.ensures.stands p
    (subst (λ (s : SchedulerView). StandRightly p s.owners s.table.places) (sym c.own.ensures) (stand-owners p old.owners c.args.class c.args.owner one old.table.places right)))

pub returns-in_err-go_on_in-clause-closes : goal.returns-in_err-go_on_in-clause-closes
returns-in_err-go_on_in-clause-closes c =
    let n = c.args.class in
    let owned = c.own.new.self in
    let put_open : ClosesNone owned.table.places c.put.new.self.table.places =
    subst (λ (s : SchedulerView). ClosesNone owned.table.places s.table.places) (sym c.put.ensures.step) (closes-put owned.table n Open (λ e. cc)) in
    λ m e. ap (λ (s : SchedulerView). place_of s.table.places m) (sym c.own.ensures) ∙ put_open m (c.go_on_in.ensures.closes m e)
