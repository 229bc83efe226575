use Rattle.std.proofs.Common.{◌≡◌, ◌≢◌, ◌<◌, ℕ, List, None, ap, get_or, inr, length, set, subst, sym, ◌∙◌}
use Rattle.iso_desk.specs.declared.line.Line.TheVariants.{Key}
use Rattle.iso_floor.specs.Schedulers.{IsFor, KeepsSizes, SchedulerView}
use Rattle.iso_desk.specs.Places.{StandsIn, line_in, place_of}
use Rattle.iso_floor.specs.Parties.{StandRightly, owner_of}
use Rattle.iso_floor.specs.Successions.{AreConcurrent, HasOwner, IsAlone, passed_in}
use Rattle.iso_model.specs.declared.script.Mode.TheVariants.{SameThread}
use Rattle.iso_plan.specs.Modes.{mode}
use Rattle.iso_plan.specs.Paths.{children}
use Rattle.iso_plan.specs.RowView.{tree_of}
use Rattle.iso_floor.proofs.PartyLemmas.{child-told}
use Rattle.iso_floor.proofs.SuccessionLemmas.{ok-map, turns-given, turns-passed}
use Rattle.iso_floor.proofs.scheduler.Scheduler.go_on_in.Goals as goal

pub returns-in-Some-clause-lines : goal.returns-in-Some-clause-lines
returns-in-Some-clause-lines c =
    λ n l st. subst (λ (s : SchedulerView). StandsIn s.table.places (Key l) n) c.pass.ensures (c.give_to_owner.ensures.lines n l st)

pub returns-in-None-clause-lines : goal.returns-in-None-clause-lines
returns-in-None-clause-lines c = λ n l st. subst (λ (s : SchedulerView). StandsIn s.table.places (Key l) n) c.pass-in-None.ensures st

pub returns-in-Some-clause-places : goal.returns-in-Some-clause-places
returns-in-Some-clause-places c = λ n e. c.give_to_owner.ensures.places n e ∙ ap (λ (s : SchedulerView). place_of s.table.places n) c.pass.ensures

pub returns-in-None-clause-places : goal.returns-in-None-clause-places
returns-in-None-clause-places c = λ n e. ap (λ (s : SchedulerView). place_of s.table.places n) c.pass-in-None.ensures

pub returns-in-Some-clause-stands : goal.returns-in-Some-clause-stands
returns-in-Some-clause-stands c =
    let p = c.args.plan.now in
    let told = c.children_of-children.ensures in
    let found = c.in-Some.ensures in
    let child = child-told p c.args.class c.children_of-children.result.now c.in-Some.place told.children told.past found.0 in
    λ right.
    c.give_to_owner.ensures.stands p
    (λ v e. inr (found.2 child.within, ap (owner_of c.pass.new.self.owners) child.parent_is ∙ e))
    (subst (λ (s : SchedulerView). StandRightly p s.owners s.table.places) (sym c.pass.ensures) right)

pub returns-in-None-clause-stands : goal.returns-in-None-clause-stands
returns-in-None-clause-stands c =
    λ right. subst (λ (s : SchedulerView). StandRightly c.args.plan.now s.owners s.table.places) (sym c.pass-in-None.ensures) right

pub returns-in-Some-clause-closes : goal.returns-in-Some-clause-closes
returns-in-Some-clause-closes c = λ n e. ap (λ (s : SchedulerView). place_of s.table.places n) (sym c.pass.ensures) ∙ c.give_to_owner.ensures.closes n e

pub returns-in-None-clause-closes : goal.returns-in-None-clause-closes
returns-in-None-clause-closes c = λ n e. ap (λ (s : SchedulerView). place_of s.table.places n) (sym c.pass-in-None.ensures) ∙ e

pub returns-in-Some-clause-turns : goal.returns-in-Some-clause-turns
returns-in-Some-clause-turns c =
    let p = c.args.plan.now in
    let old = c.args.self.now in
    let own = c.args.class in
    let i = c.in-Some.place in
    let ns = c.children_of-children.result.now in
    let told = c.children_of-children.ensures in
    let found = c.in-Some.ensures in
    let child = child-told p own ns i told.children told.past found.0 in
    let given = c.give_to_owner in
    let mid = c.pass.new.self in
    let new = given.new.self in
    let sizes : KeepsSizes old new =
    λ nodes crew f.
    given.ensures.sizes nodes crew (subst (λ (s : SchedulerView). IsFor nodes crew s) (sym c.pass.ensures) (record { nodes_are = f.nodes_are; workers_are = f.workers_are })) in
    ok-map given.result
    (λ line low owner turn.
    let is : ns ≡ children (tree_of p) own = told.children low in
    let room : get_or ns i 0 < length mid.table.places =
    subst (λ (k : ℕ). get_or ns i 0 < k) (sym (ap (λ (s : SchedulerView). length s.table.places) c.pass.ensures ∙ turn.places_are)) child.within in
    let there : line_in (place_of new.table.places (get_or ns i 0)) ≢ None =
    line room (subst (λ (s : SchedulerView). HasOwner s.owners s.table.workers own) (sym c.pass.ensures) owner) in
    let alone : IsAlone p own i =
    record {
      within = subst (λ (ms : List ℕ). i < length ms) is found.0;
      alone = subst (λ (ms : List ℕ). mode (tree_of p) p.settings (get_or ms i 0) ≡ SameThread) is (found.2 child.within);
    } in
    let free : AreConcurrent p (children (tree_of p) own) (passed_in old.passed own) i =
    subst (λ (ms : List ℕ). AreConcurrent p ms (passed_in old.passed own) i) is (subst (λ (k : ℕ). AreConcurrent p ns k i) c.passed.ensures found.1) in
    turns-given p old new own i sizes
    (λ n e. ap (λ (s : SchedulerView). place_of s.table.places n) (sym c.pass.ensures) ∙ given.ensures.closes n e)
    (λ n e. given.ensures.places n e ∙ ap (λ (s : SchedulerView). place_of s.table.places n) c.pass.ensures)
    (ap (λ (s : SchedulerView). s.owners) given.ensures.rest ∙ ap (λ (s : SchedulerView). s.owners) c.pass.ensures)
    (ap (λ (s : SchedulerView). s.passed) given.ensures.rest ∙ ap (λ (s : SchedulerView). s.passed) c.pass.ensures)
    low alone free (subst (λ (ms : List ℕ). line_in (place_of new.table.places (get_or ms i 0)) ≢ None) is there) turn)
    given.ensures.given

pub returns-in-None-clause-turns : goal.returns-in-None-clause-turns
returns-in-None-clause-turns c =
    let p = c.args.plan.now in
    let old = c.args.self.now in
    let own = c.args.class in
    let ns = c.children_of-children.result.now in
    let new = c.pass-in-None.new.self in
    let sizes : KeepsSizes old new =
    λ nodes crew f. subst (λ (s : SchedulerView). IsFor nodes crew s) (sym c.pass-in-None.ensures) (record { nodes_are = f.nodes_are; workers_are = f.workers_are }) in
    λ low owner turn.
    let is : ns ≡ children (tree_of p) own = c.children_of-children.ensures.children low in
    let free : AreConcurrent p (children (tree_of p) own) (passed_in old.passed own) (length (children (tree_of p) own)) =
    subst (λ (ms : List ℕ). AreConcurrent p ms (passed_in old.passed own) (length ms)) is (subst (λ (k : ℕ). AreConcurrent p ns k (length ns)) c.passed.ensures c.in-None.ensures) in
    turns-passed p old new own sizes (λ n e. ap (λ (s : SchedulerView). place_of s.table.places n) (sym c.pass-in-None.ensures) ∙ e)
    (λ n e. ap (λ (s : SchedulerView). place_of s.table.places n) c.pass-in-None.ensures)
    (ap (λ (s : SchedulerView). s.owners) c.pass-in-None.ensures)
    (ap (λ (s : SchedulerView). s.passed) c.pass-in-None.ensures ∙ ap (λ (ms : List ℕ). set old.passed own (length ms)) is) low free turn
