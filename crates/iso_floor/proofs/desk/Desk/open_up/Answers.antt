use Rattle.std.proofs.Common.{◌≡◌, ◌<◌, ◌∙◌, ℕ, Some, ap, length, subst, sym}
use Rattle.iso_floor.specs.Desks.{DeskView, IsDesk, IsOpenFor}
use Rattle.iso_floor.specs.Parties.{StandRightly, owner_of}
use Rattle.iso_floor.specs.Postings.{IsPosted}
use Rattle.iso_plan.specs.Planned.{Planned}
use Rattle.iso_floor.proofs.DeskLemmas.{desk-opened, desk-step, desk-stopped, rightly}
use Rattle.iso_floor.proofs.SuccessionLemmas.{ok-told, turns-by, turns-kept, was-stopped}
use Rattle.iso_floor.proofs.RemainderLemmas.{left-by, left-kept}
use Rattle.iso_floor.proofs.UntouchedLemmas.{untouched-step, untouched-stopped}
use Rattle.iso_floor.specs.Successions.{ComeInTurn}
use Rattle.iso_floor.specs.Schedulers.{SchedulerView}
use Rattle.iso_floor.proofs.desk.Desk.open_up.Goals as goal

pub invariant_of-self : goal.invariant_of-self
invariant_of-self g c =
    let i = c.self.inside in
    let posted = c.post_children in
    record {
      desk = desk-step g.G.Ground.plan g.G.Ground.start g.G.Ground.workers i.book i.scheduler posted.new.scheduler posted.ensures.keys posted.ensures.owners posted.ensures.sizes
          (rightly i.scheduler posted.new.scheduler g.G.Ground.plan.rows posted.ensures.lines) posted.ensures.places (posted.ensures.stands g.G.Ground.plan) posted.ensures.closes c.self.invariant.desk;
      turns = λ some on.
          turns-kept (λ m. ⊥) g.G.Ground.plan i.scheduler posted.new.scheduler posted.ensures.sizes posted.ensures.closes posted.ensures.places posted.ensures.owners posted.ensures.passed
          (c.self.invariant.turns some on);
      left = λ some on. left-kept (λ m. ⊥) g.G.Ground.plan i.scheduler posted.new.scheduler posted.ensures.left posted.ensures.places (c.self.invariant.left some on);
      fresh = λ none. untouched-step i.book i.scheduler posted.new.scheduler posted.ensures.lines posted.ensures.closes (c.self.invariant.fresh (sym posted.ensures.bypassed ∙ none));
      seats = c.self.invariant.seats;
      first = c.self.invariant.first;
    }

pub invariant_of-self-then-is_err : goal.invariant_of-self-then-is_err
invariant_of-self-then-is_err g c =
    let i = c.self.inside in
    let rows = g.G.Ground.plan.rows in
    let posted = c.post_children in
    let opened = c.open-opened in
    let old = posted.new.scheduler in
    let new = opened.new.self in
    let is : c.plan-plan.result.now ≡ g.G.Ground.plan = c.plan-plan.ensures ∙ c.self.invariant.desk.book.plan_is in
    let opened-stands : ((v : ℕ) → owner_of old.owners c.args.class ≡ Some v → v ≡ c.args.worker) → StandRightly g.G.Ground.plan old.owners old.table.places
    → StandRightly g.G.Ground.plan new.owners new.table.places =
    subst (λ (x : Planned). ((v : ℕ) → owner_of old.owners c.args.class ≡ Some v → v ≡ c.args.worker) → StandRightly x old.owners old.table.places → StandRightly x new.owners new.table.places) is
    opened.ensures.stands in
    let is_open : IsOpenFor i.book c.args.class c.args.worker = subst (λ (d : DeskView). IsOpenFor d.book c.args.class c.args.worker) (sym c.self.view_is) c.requires in
    let sizes : length i.scheduler.table.places ≡ length c.plan-plan.result.now.rows =
    c.self.invariant.desk.scheduler.nodes_are ∙ ap (λ (x : Planned). length x.rows) (sym is) in
    let within : c.args.class < length c.plan-plan.result.now.rows = subst (λ (x : Planned). c.args.class < length x.rows) (sym c.plan-plan.ensures) is_open.within in
    let children : IsPosted g.G.Ground.plan c.args.class old.table.places =
    subst (λ (x : Planned). IsPosted x c.args.class old.table.places) is (c.in_ok-post_children.ensures.posted within sizes) in
    let is_desk : IsDesk g.G.Ground.plan g.G.Ground.start g.G.Ground.workers i.book opened.new.self =
    desk-opened g.G.Ground.plan g.G.Ground.start g.G.Ground.workers i.book posted.new.scheduler opened.new.self c.args.class c.args.worker opened.ensures.rest opened.ensures.sizes
    (rightly posted.new.scheduler opened.new.self rows opened.ensures.lines) opened.ensures.places opened-stands opened.ensures.closes children is_open
    (desk-step g.G.Ground.plan g.G.Ground.start g.G.Ground.workers i.book i.scheduler posted.new.scheduler posted.ensures.keys posted.ensures.owners posted.ensures.sizes (rightly i.scheduler posted.new.scheduler rows posted.ensures.lines)
    posted.ensures.places (posted.ensures.stands g.G.Ground.plan) posted.ensures.closes c.self.invariant.desk) in
    record {
      desk = desk-stopped g.G.Ground.plan g.G.Ground.start g.G.Ground.workers i.book c.stop.new.self opened.new.self c.stop.ensures is_desk;
      turns = λ some on. absurd (was-stopped i.book c.stop.new.self c.stop.ensures on);
      left = λ some on. absurd (was-stopped i.book c.stop.new.self c.stop.ensures on);
      fresh = λ none.
          untouched-stopped i.book c.stop.new.self opened.new.self.table.places c.stop.ensures
          (untouched-step i.book posted.new.scheduler opened.new.self opened.ensures.lines opened.ensures.closes
          (untouched-step i.book i.scheduler posted.new.scheduler posted.ensures.lines posted.ensures.closes (c.self.invariant.fresh (sym posted.ensures.bypassed ∙ (sym (ap (λ (x : SchedulerView). x.bypassed) opened.ensures.rest) ∙ none)))));
      seats = c.self.invariant.seats;
      first = c.self.invariant.first;
    }

pub invariant_of-self-else-is_err : goal.invariant_of-self-else-is_err
invariant_of-self-else-is_err g c =
    let i = c.self.inside in
    let rows = g.G.Ground.plan.rows in
    let posted = c.post_children in
    let opened = c.open-opened in
    let old = posted.new.scheduler in
    let new = opened.new.self in
    let is : c.plan-plan.result.now ≡ g.G.Ground.plan = c.plan-plan.ensures ∙ c.self.invariant.desk.book.plan_is in
    let opened-stands : ((v : ℕ) → owner_of old.owners c.args.class ≡ Some v → v ≡ c.args.worker) → StandRightly g.G.Ground.plan old.owners old.table.places
    → StandRightly g.G.Ground.plan new.owners new.table.places =
    subst (λ (x : Planned). ((v : ℕ) → owner_of old.owners c.args.class ≡ Some v → v ≡ c.args.worker) → StandRightly x old.owners old.table.places → StandRightly x new.owners new.table.places) is
    opened.ensures.stands in
    let is_open : IsOpenFor i.book c.args.class c.args.worker = subst (λ (d : DeskView). IsOpenFor d.book c.args.class c.args.worker) (sym c.self.view_is) c.requires in
    let sizes : length i.scheduler.table.places ≡ length c.plan-plan.result.now.rows =
    c.self.invariant.desk.scheduler.nodes_are ∙ ap (λ (x : Planned). length x.rows) (sym is) in
    let within : c.args.class < length c.plan-plan.result.now.rows = subst (λ (x : Planned). c.args.class < length x.rows) (sym c.plan-plan.ensures) is_open.within in
    let children : IsPosted g.G.Ground.plan c.args.class old.table.places =
    subst (λ (x : Planned). IsPosted x c.args.class old.table.places) is (c.in_ok-post_children.ensures.posted within sizes) in
    let is_desk : IsDesk g.G.Ground.plan g.G.Ground.start g.G.Ground.workers i.book opened.new.self =
    desk-opened g.G.Ground.plan g.G.Ground.start g.G.Ground.workers i.book posted.new.scheduler opened.new.self c.args.class c.args.worker opened.ensures.rest opened.ensures.sizes
    (rightly posted.new.scheduler opened.new.self rows opened.ensures.lines) opened.ensures.places opened-stands opened.ensures.closes children is_open
    (desk-step g.G.Ground.plan g.G.Ground.start g.G.Ground.workers i.book i.scheduler posted.new.scheduler posted.ensures.keys posted.ensures.owners posted.ensures.sizes (rightly i.scheduler posted.new.scheduler rows posted.ensures.lines)
    posted.ensures.places (posted.ensures.stands g.G.Ground.plan) posted.ensures.closes c.self.invariant.desk) in
    let known : c.args.worker < posted.new.scheduler.table.workers =
    subst (λ (k : ℕ). c.args.worker < k)
    (c.self.invariant.desk.book.workers_are ∙ sym (posted.ensures.sizes (length g.G.Ground.plan.rows) g.G.Ground.workers c.self.invariant.desk.scheduler).workers_are) is_open.worker in
    record {
      desk = is_desk;
      turns = λ some on.
          turns-by g.G.Ground.plan c.plan-plan.result.now is posted.new.scheduler opened.new.self
          (ok-told opened.result (sym c.is_err.ensures.value ∙ c.if-is_err.false) opened.ensures.turns within known)
          (turns-kept (λ m. ⊥) g.G.Ground.plan i.scheduler posted.new.scheduler posted.ensures.sizes posted.ensures.closes posted.ensures.places posted.ensures.owners posted.ensures.passed
          (c.self.invariant.turns some on));
      left = λ some on.
          left-by g.G.Ground.plan c.plan-plan.result.now is posted.new.scheduler opened.new.self
          (ok-told opened.result (sym c.is_err.ensures.value ∙ c.if-is_err.false) opened.ensures.left within known
          (subst (λ (x : Planned). ComeInTurn x posted.new.scheduler) (sym is)
          (turns-kept (λ m. ⊥) g.G.Ground.plan i.scheduler posted.new.scheduler posted.ensures.sizes posted.ensures.closes posted.ensures.places posted.ensures.owners posted.ensures.passed
          (c.self.invariant.turns some on))))
          (left-kept (λ m. ⊥) g.G.Ground.plan i.scheduler posted.new.scheduler posted.ensures.left posted.ensures.places (c.self.invariant.left some on));
      fresh = λ none.
          untouched-step i.book posted.new.scheduler opened.new.self opened.ensures.lines opened.ensures.closes
          (untouched-step i.book i.scheduler posted.new.scheduler posted.ensures.lines posted.ensures.closes (c.self.invariant.fresh (sym posted.ensures.bypassed ∙ (sym (ap (λ (x : SchedulerView). x.bypassed) opened.ensures.rest) ∙ none))));
      seats = c.self.invariant.seats;
      first = c.self.invariant.first;
    }
