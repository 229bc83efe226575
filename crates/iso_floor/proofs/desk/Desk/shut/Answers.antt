use Rattle.std.proofs.Common.{ap, sym, ◌∙◌}
use Rattle.iso_book.specs.Books.{BookView}
use Rattle.iso_desk.specs.declared.place.Place.TheVariants.{With}
use Rattle.iso_floor.specs.Schedulers.{SchedulerView}
use Rattle.iso_standing.specs.declared.event.Event.TheVariants.{Shut}
use Rattle.iso_floor.proofs.DeskLemmas.{desk-shut}
use Rattle.iso_floor.proofs.SuccessionLemmas.{turns-put}
use Rattle.iso_floor.proofs.RemainderLemmas.{left-put}
use Rattle.iso_floor.proofs.UntouchedLemmas.{closes-put-in, untouched-shut}
use Rattle.iso_floor.proofs.desk.Desk.shut.Goals as goal

pub invariant_of-self-2 : goal.invariant_of-self-2
invariant_of-self-2 g c =
    let i = c.self.inside in
    let shut = c.in_ok-shut_own.ensures in
    let step = c.shut.ensures in
    record {
      desk =
          desk-shut g.G.Ground.plan g.G.Ground.start g.G.Ground.workers i.book c.shut_own.new.self (Shut c.args.worker c.args.class) shut.event.book c.plan.result.now
          c.nodes_are_a_tree.ensures c.plan.ensures
          i.scheduler c.shut.new.self c.args.worker c.args.class shut.held (ap (λ (x : SchedulerView). x.keys) step.step) step.sizes step.lines shut.progress
          shut.event.is_allowed.allowed (ap (λ (x : SchedulerView). x.table) step.step) (ap (λ (x : SchedulerView). x.owners) step.step) c.self.invariant.desk;
      turns = λ some on.
          turns-put g.G.Ground.plan i.scheduler c.shut.new.self c.args.class (With c.args.worker) (λ f. cc) (λ f. cc) (λ f. cc) step.sizes (ap (λ (x : SchedulerView). x.table) step.step)
          (ap (λ (x : SchedulerView). x.owners) step.step) (ap (λ (x : SchedulerView). x.passed) step.step)
          (c.self.invariant.turns some (sym (ap (λ (x : BookView). x.stopped) shut.event.book) ∙ on));
      left = λ some on.
          left-put g.G.Ground.plan i.scheduler c.shut.new.self c.args.class (With c.args.worker) (λ f. cc) (λ f. cc) (ap (λ (x : SchedulerView). x.table) step.step) (ap (λ (x : SchedulerView). x.left) step.step)
          (c.self.invariant.left some (sym (ap (λ (x : BookView). x.stopped) shut.event.book) ∙ on));
      fresh = λ none.
          untouched-shut i.book c.shut_own.new.self c.args.worker c.args.class shut.event.book shut.progress shut.event.is_allowed.allowed i.scheduler c.shut.new.self step.lines
          (closes-put-in i.scheduler c.shut.new.self c.args.class c.args.worker (ap (λ (x : SchedulerView). x.table) step.step))
          (c.self.invariant.fresh (sym (ap (λ (x : SchedulerView). x.bypassed) step.step) ∙ none));
      seats = c.self.invariant.seats;
      first = c.self.invariant.first;
    }
