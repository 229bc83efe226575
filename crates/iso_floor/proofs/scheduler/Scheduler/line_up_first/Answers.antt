use Rattle.std.proofs.Common.{◌≡◌, ◌<◌, ℕ, List, get_or, length, ◌-◌, ap, false, refl, subst, sym, ◌∙◌}
use Rattle.iso_desk.specs.Places.{TableView, place_of}
use Rattle.iso_desk.specs.declared.place.Place.TheVariants.{InLine}
use Rattle.iso_floor.specs.Schedulers.{IsFree, SchedulerView, is_loose, loose_in, with_in, without}
use Rattle.iso_desk.specs.declared.place.Place.{Place}
use Rattle.iso_floor.proofs.BusyLemmas.{busy-left, none-moved, without-long}
use Rattle.iso_floor.proofs.LooseLemmas.{recount, was-counted}
use Rattle.iso_floor.proofs.scheduler.Scheduler.line_up_first.Goals as goal

pub recounted-self-inside-requires-clause-was : goal.recounted-self-inside-requires-clause-was
recounted-self-inside-requires-clause-was c =
    let places = c.self.inside.table.places in
    let f : IsFree places c.args.node = subst (λ (s : SchedulerView). IsFree s.table.places c.args.node) (sym c.self.view_is) c.requires.free in
    was-counted places c.args.node c.self.inside.loose c.is_loose.result f.within c.self.invariant.loose_are (c.is_loose.ensures ∙ ap is_loose c.place-was.ensures)

pub invariant_of-self-2 : goal.invariant_of-self-2
invariant_of-self-2 c =
    let places = c.self.inside.table.places in
    let f : IsFree places c.args.node = subst (λ (s : SchedulerView). IsFree s.table.places c.args.node) (sym c.self.view_is) c.requires.free in
    let n = c.args.node in
    let p : Place = InLine (record { line = c.args.line; since = c.self.inside.table.front - 1 }) in
    let bs = c.self.inside.busy.items in
    let busy : c.leave_worker.new.busy.items ≡ without (place_of places n) bs = c.leave_worker.ensures ∙ ap (λ (q : Place). without q bs) c.place-was.ensures in
    let workers = sym (ap (λ (t : TableView). t.workers) c.in_ok-line_up_first.ensures.stands) in
    record {
      crew = c.self.invariant.crew ∙ sym (ap (λ (t : TableView). t.workers) c.in_ok-line_up_first.ensures.stands);
      loose_are =
          recount places c.args.node (InLine (record { line = c.args.line; since = c.self.inside.table.front - 1 })) c.self.inside.loose c.recounted-self-inside.result c.is_loose.result
          false f.within c.self.invariant.loose_are
          (c.is_loose.ensures ∙ ap is_loose c.place-was.ensures) refl c.recounted-self-inside.ensures
          ∙ sym (ap (λ (t : TableView). loose_in t.places) c.in_ok-line_up_first.ensures.stands);
      busy_long = ap (λ (xs : List ℕ). length xs) busy ∙ without-long (place_of places n) bs ∙ c.self.invariant.busy_long ∙ workers;
      busy_are = λ w low.
          ap (λ (xs : List ℕ). get_or xs w 0) busy
          ∙ busy-left places bs n p f.within (λ v less. c.self.invariant.busy_are v (subst (λ (k : ℕ). v < k) c.self.invariant.busy_long less)) w
          (subst (λ (k : ℕ). w < k) (sym workers ∙ sym c.self.invariant.busy_long) low) refl
          ∙ sym (ap (λ (t : TableView). with_in t.places w) c.in_ok-line_up_first.ensures.stands);
      idle = λ w waits.
          ap (λ (t : TableView). with_in t.places w) c.in_ok-line_up_first.ensures.stands ∙ none-moved places n p w f.within (c.self.invariant.idle w waits) (λ e. cc);
    }
