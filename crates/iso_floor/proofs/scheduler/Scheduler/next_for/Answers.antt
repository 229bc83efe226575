use Rattle.std.proofs.Common.{◌<◌, ◌^◌, ℕ, ap, length, refl, subst, sym, ◌∙◌}
use Rattle.iso_desk.specs.declared.line.Line.TheVariants.{Key}
use Rattle.iso_desk.specs.Places.{IsFirst, StandsIn, TableView}
use Rattle.iso_desk.specs.declared.place.Place.TheVariants.{Loose}
use Rattle.iso_floor.specs.Schedulers.{SchedulerView, loose_in, with_in}
use Rattle.iso_floor.proofs.BusyLemmas.{busy-taken}
use Rattle.iso_floor.proofs.LooseLemmas.{left-line, line-room}
use Rattle.iso_floor.proofs.RightLemmas.{line-moved}
use Rattle.iso_floor.proofs.SchedulerLemmas.{stands-within}
use Rattle.iso_floor.proofs.PlaceLemmas.{Keeps, keeps-set}
use Rattle.iso_floor.proofs.scheduler.Scheduler.next_for.Goals as goal

pub recounted-self-inside-requires-clause-room : goal.recounted-self-inside-requires-clause-room
recounted-self-inside-requires-clause-room c =
    let places = c.self.inside.table.places in
    let n = c.in_ok-node.node in
    let l = c.in_ok-line.line in
    let first : IsFirst places l n = c.in_ok-node.ensures in
    let few : length places < 2 ^ 64 = subst (λ (k : ℕ). k < 2 ^ 64) c.nodes-nodes.ensures c.nodes-nodes.type_inv in
    line-room places n l c.self.inside.loose (stands-within places l n first.0) few first.0 c.self.invariant.loose_are

pub invariant_of-self : goal.invariant_of-self
invariant_of-self c =
    let places = c.self.inside.table.places in
    let n = c.in_ok-node.node in
    let l = c.in_ok-line.line in
    let first : IsFirst places l n = c.in_ok-node.ensures in
    record {
      crew = c.self.invariant.crew ∙ sym (ap (λ (t : TableView). t.workers) c.leave.ensures);
      loose_are =
          left-line places n l c.self.inside.loose c.recounted-self-inside.result (stands-within places l n first.0) first.0 c.self.invariant.loose_are c.recounted-self-inside.ensures
          ∙ sym (ap (λ (t : TableView). loose_in t.places) c.leave.ensures);
      busy_long = c.self.invariant.busy_long ∙ sym (ap (λ (t : TableView). t.workers) c.leave.ensures);
      busy_are = λ w low.
          c.self.invariant.busy_are w (subst (λ (k : ℕ). w < k) (ap (λ (t : TableView). t.workers) c.leave.ensures) low)
          ∙ sym (ap (λ (t : TableView). with_in t.places w) c.leave.ensures ∙ busy-taken places n Loose l w (stands-within places l n first.0) first.0 refl);
      idle = λ w waits.
          ap (λ (t : TableView). with_in t.places w) c.leave.ensures ∙ busy-taken places n Loose l w (stands-within places l n first.0) first.0 refl ∙ c.self.invariant.idle w waits;
    }

pub returns-clause-lines : goal.returns-clause-lines
returns-clause-lines c =
    let n = c.in_ok-node.node in
    λ m l st.
    subst (λ (s : SchedulerView). StandsIn s.table.places (Key l) m) c.self.view_is
    (line-moved c.self.inside.table n Loose refl m l (subst (λ (t : TableView). StandsIn t.places (Key l) m) c.leave.ensures st))

pub returns-clause-places : goal.returns-clause-places
returns-clause-places c =
    let places = c.self.inside.table.places in
    subst (λ (s : SchedulerView). Keeps s.table.places c.leave.new.self.places) c.self.view_is
    (subst (λ (t : TableView). Keeps places t.places) (sym c.leave.ensures) (keeps-set places c.in_ok-node.node Loose refl))
