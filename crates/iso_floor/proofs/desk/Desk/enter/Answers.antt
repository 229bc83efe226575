use Rattle.std.proofs.Common.{ap, sym, ◌∙◌, length}
use Rattle.iso_book.specs.Books.{BookView}
use Rattle.iso_desk.specs.declared.place.Place.TheVariants.{With}
use Rattle.iso_floor.specs.Schedulers.{SchedulerView}
use Rattle.iso_standing.specs.declared.event.Event.TheVariants.{Enter}
use Rattle.iso_floor.proofs.DeskLemmas.{desk-entered}
use Rattle.iso_floor.proofs.SuccessionLemmas.{turns-put}
use Rattle.iso_floor.proofs.RemainderLemmas.{left-put}
use Rattle.iso_floor.proofs.UntouchedLemmas.{closes-put-in, enter-within, or-false, untouched-entered}
use Rattle.iso_plan.specs.Planned.{Planned}
use Rattle.iso_floor.proofs.desk.Desk.enter.Goals as goal

pub invariant_of-self-2 : goal.invariant_of-self-2
invariant_of-self-2 g c =
    let i = c.self.inside in
    let n = c.args.node in
    let entered = c.in_ok-enter_own.ensures in
    let step = c.enter.ensures in
    record {
      desk =
          desk-entered g.G.Ground.plan g.G.Ground.start g.G.Ground.workers i.book c.enter_own.new.self (Enter c.args.worker n) entered.event.book c.plan.result.now c.nodes_are_a_tree.ensures
          c.plan.ensures
          i.scheduler c.enter.new.self c.args.worker n c.plan-2.result.now c.held.result.now.held entered.held c.plan-2.ensures c.held.ensures.held step.keys step.past step.sizes step.lines
          entered.progress entered.event.is_allowed.allowed (ap (λ (x : SchedulerView). x.table) step.place) (ap (λ (x : SchedulerView). x.owners) step.place) c.self.invariant.desk;
      turns = λ some on.
          turns-put g.G.Ground.plan i.scheduler c.enter.new.self n (With c.args.worker) (λ f. cc) (λ f. cc) (λ f. cc) step.sizes (ap (λ (x : SchedulerView). x.table) step.place)
          (ap (λ (x : SchedulerView). x.owners) step.place) (ap (λ (x : SchedulerView). x.passed) step.place)
          (c.self.invariant.turns some (sym (ap (λ (x : BookView). x.stopped) entered.event.book) ∙ on));
      left = λ some on.
          left-put g.G.Ground.plan i.scheduler c.enter.new.self n (With c.args.worker) (λ f. cc) (λ f. cc) (ap (λ (x : SchedulerView). x.table) step.place) (ap (λ (x : SchedulerView). x.left) step.place)
          (c.self.invariant.left some (sym (ap (λ (x : BookView). x.stopped) entered.event.book) ∙ on));
      fresh = λ none.
          let parts = or-false i.scheduler.bypassed _ (sym (ap (λ (x : SchedulerView). x.bypassed) step.place) ∙ none) in
          untouched-entered i.book c.enter_own.new.self c.args.worker n entered.event.book entered.progress entered.event.is_allowed.allowed
          (enter-within i.book c.args.worker n entered.event.is_allowed.allowed) i.scheduler c.enter.new.self step.lines
          (closes-put-in i.scheduler c.enter.new.self n c.args.worker (ap (λ (x : SchedulerView). x.table) step.place))
          (c.self.invariant.desk.scheduler.nodes_are ∙ ap (λ (x : Planned). length x.rows) (sym c.self.invariant.desk.book.plan_is))
          (ap (λ (x : SchedulerView). x.table) step.place) parts.1 (c.self.invariant.fresh parts.0);
      seats = c.self.invariant.seats;
      first = c.self.invariant.first;
    }
