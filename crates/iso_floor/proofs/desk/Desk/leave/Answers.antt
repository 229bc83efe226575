use Rattle.std.proofs.Common.{◌≡◌, ◌∙◌, ℕ, ap, subst, sym}
use Rattle.iso_book.specs.Books.{BookView}
use Rattle.iso_book.specs.Holdings.{HoldAfter}
use Rattle.iso_book.specs.Progress.{HasGoneOn}
use Rattle.iso_floor.specs.Desks.{IsDesk}
use Rattle.iso_lifecycle.specs.declared.kind.BodyKind.{BodyKind}
use Rattle.iso_standing.specs.declared.event.Event.TheVariants.{Leave}
use Rattle.iso_floor.proofs.DeskLemmas.{desk-left, desk-stopped}
use Rattle.iso_floor.proofs.SuccessionLemmas.{ok-told, turns-by, was-stopped}
use Rattle.iso_floor.proofs.RemainderLemmas.{left-by}
use Rattle.iso_floor.proofs.UntouchedLemmas.{untouched-left, untouched-stopped}
use Rattle.iso_floor.specs.Successions.{ComeInTurn}
use Rattle.iso_plan.specs.Planned.{Planned}
use Rattle.iso_floor.proofs.desk.Desk.leave.Goals as goal

pub invariant_of-self-then-is_err : goal.invariant_of-self-then-is_err
invariant_of-self-then-is_err g c =
    let i = c.self.inside in
    let left = c.in_ok-receipt.ensures in
    let step = c.leave-left.ensures in
    let b = i.book in
    let a = c.leave_own.new.self in
    let held : HoldAfter c.kind-kind.result c.node-node.result b a =
    subst (λ (k : BodyKind). HoldAfter k c.node-node.result b a) (sym c.kind-kind.ensures) (subst (λ (n : ℕ). HoldAfter c.args.done.kind n b a) (sym c.node-node.ensures) left.held) in
    let progress : HasGoneOn c.kind-kind.result c.node-node.result b a =
    subst (λ (k : BodyKind). HasGoneOn k c.node-node.result b a) (sym c.kind-kind.ensures) (subst (λ (n : ℕ). HasGoneOn c.args.done.kind n b a) (sym c.node-node.ensures) left.progress) in
    let is : IsDesk g.G.Ground.plan g.G.Ground.start g.G.Ground.workers a c.leave-left.new.self =
    desk-left g.G.Ground.plan g.G.Ground.start g.G.Ground.workers i.book c.leave_own.new.self (Leave c.args.worker) left.event.book c.plan.result.now c.nodes_are_a_tree.ensures c.plan.ensures
    i.scheduler c.leave-left.new.self c.kind-kind.result c.node-node.result c.plan-2.result.now c.held.result.now.held held c.plan-2.ensures c.held.ensures.held step.stays step.keys step.past
    step.sizes step.lines progress step.places step.owners step.stands step.closes c.self.invariant.desk in
    record {
      desk = desk-stopped g.G.Ground.plan g.G.Ground.start g.G.Ground.workers a c.stop.new.self c.leave-left.new.self c.stop.ensures is;
      turns = λ some on. absurd (was-stopped a c.stop.new.self c.stop.ensures on);
      left = λ some on. absurd (was-stopped a c.stop.new.self c.stop.ensures on);
      fresh = λ none.
          untouched-stopped a c.stop.new.self c.leave-left.new.self.table.places c.stop.ensures
          (untouched-left b a (Leave c.args.worker) left.event.book c.kind-kind.result c.node-node.result progress i.scheduler c.leave-left.new.self step.lines step.closes
          (c.self.invariant.fresh (sym step.bypassed ∙ none)));
      seats = c.self.invariant.seats;
      first = c.self.invariant.first;
    }

pub invariant_of-self-else-is_err : goal.invariant_of-self-else-is_err
invariant_of-self-else-is_err g c =
    let i = c.self.inside in
    let left = c.in_ok-receipt.ensures in
    let step = c.leave-left.ensures in
    let b = i.book in
    let a = c.leave_own.new.self in
    let held : HoldAfter c.kind-kind.result c.node-node.result b a =
    subst (λ (k : BodyKind). HoldAfter k c.node-node.result b a) (sym c.kind-kind.ensures) (subst (λ (n : ℕ). HoldAfter c.args.done.kind n b a) (sym c.node-node.ensures) left.held) in
    let progress : HasGoneOn c.kind-kind.result c.node-node.result b a =
    subst (λ (k : BodyKind). HasGoneOn k c.node-node.result b a) (sym c.kind-kind.ensures) (subst (λ (n : ℕ). HasGoneOn c.args.done.kind n b a) (sym c.node-node.ensures) left.progress) in
    let is : IsDesk g.G.Ground.plan g.G.Ground.start g.G.Ground.workers a c.leave-left.new.self =
    desk-left g.G.Ground.plan g.G.Ground.start g.G.Ground.workers i.book c.leave_own.new.self (Leave c.args.worker) left.event.book c.plan.result.now c.nodes_are_a_tree.ensures c.plan.ensures
    i.scheduler c.leave-left.new.self c.kind-kind.result c.node-node.result c.plan-2.result.now c.held.result.now.held held c.plan-2.ensures c.held.ensures.held step.stays step.keys step.past
    step.sizes step.lines progress step.places step.owners step.stands step.closes c.self.invariant.desk in
    let plans : c.plan-2.result.now ≡ g.G.Ground.plan = c.plan-2.ensures ∙ ap (λ (x : BookView). x.plan) left.event.book ∙ c.self.invariant.desk.book.plan_is in
    record {
      desk = is;
      turns = λ some on.
          turns-by g.G.Ground.plan c.plan-2.result.now plans i.scheduler c.leave-left.new.self (ok-told c.leave-left.result (sym c.is_err.ensures.value ∙ c.if-is_err.false) step.turns)
          (c.self.invariant.turns some (sym (ap (λ (x : BookView). x.stopped) left.event.book) ∙ on));
      left = λ some on.
          let on-before = sym (ap (λ (x : BookView). x.stopped) left.event.book) ∙ on in
          left-by g.G.Ground.plan c.plan-2.result.now plans i.scheduler c.leave-left.new.self
          (ok-told c.leave-left.result (sym c.is_err.ensures.value ∙ c.if-is_err.false) step.left (subst (λ (x : Planned). ComeInTurn x i.scheduler) (sym plans) (c.self.invariant.turns some on-before)))
          (c.self.invariant.left some on-before);
      fresh = λ none.
          untouched-left b a (Leave c.args.worker) left.event.book c.kind-kind.result c.node-node.result progress i.scheduler c.leave-left.new.self step.lines step.closes
          (c.self.invariant.fresh (sym step.bypassed ∙ none));
      seats = c.self.invariant.seats;
      first = c.self.invariant.first;
    }

pub returns-clause-event : goal.returns-clause-event
returns-clause-event g c = rw (← c.self.view_is) (c.leave_own.new.self, c.in_ok-receipt.ensures.event)
