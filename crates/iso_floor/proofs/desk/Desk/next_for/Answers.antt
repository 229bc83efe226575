use Rattle.std.proofs.Common.{ℕ, List, Option, IfSome, ap, subst, sym, ◌∙◌}
use Rattle.iso_floor.specs.Nexts.{IsNextNode}
use Rattle.iso_floor.specs.Parties.{MayTry}
use Rattle.iso_floor.specs.Postings.{ClosesNone}
use Rattle.iso_floor.specs.Schedulers.{SchedulerView}
use Rattle.iso_floor.proofs.DeskLemmas.{desk-table, rightly}
use Rattle.iso_floor.proofs.PartyLemmas.{may-some, next-some, stand-next}
use Rattle.iso_floor.proofs.PostingLemmas.{closes-taken}
use Rattle.iso_floor.proofs.SuccessionLemmas.{turns-table}
use Rattle.iso_floor.proofs.RemainderLemmas.{left-table}
use Rattle.iso_floor.proofs.UntouchedLemmas.{untouched-step}
use Rattle.iso_floor.proofs.desk.Desk.next_for.Goals as goal

pub invariant_of-self : goal.invariant_of-self
invariant_of-self g c =
    let i = c.self.inside in
    record {
      desk = desk-table g.G.Ground.plan g.G.Ground.start g.G.Ground.workers i.book i.scheduler c.next_for.new.self c.next_for.ensures.left c.next_for.ensures.sizes
          (rightly i.scheduler c.next_for.new.self g.G.Ground.plan.rows c.next_for.ensures.lines) c.next_for.ensures.places
          (stand-next g.G.Ground.plan i.scheduler c.next_for.new.self c.next_for.result c.next_for.ensures.left)
          (subst (λ (s : SchedulerView). ClosesNone i.scheduler.table.places s.table.places) (sym c.next_for.ensures.left) (closes-taken i.scheduler.table c.next_for.result))
          c.self.invariant.desk;
      turns = λ some on.
          turns-table g.G.Ground.plan i.scheduler c.next_for.new.self c.next_for.ensures.left c.next_for.ensures.sizes
          (subst (λ (s : SchedulerView). ClosesNone i.scheduler.table.places s.table.places) (sym c.next_for.ensures.left) (closes-taken i.scheduler.table c.next_for.result))
          c.next_for.ensures.places (c.self.invariant.turns some on);
      left = λ some on. left-table g.G.Ground.plan i.scheduler c.next_for.new.self c.next_for.ensures.left c.next_for.ensures.places (c.self.invariant.left some on);
      fresh = λ none.
          untouched-step i.book i.scheduler c.next_for.new.self c.next_for.ensures.lines
          (subst (λ (s : SchedulerView). ClosesNone i.scheduler.table.places s.table.places) (sym c.next_for.ensures.left) (closes-taken i.scheduler.table c.next_for.result))
          (c.self.invariant.fresh (sym (ap (λ (x : SchedulerView). x.bypassed) c.next_for.ensures.left) ∙ none));
      seats = c.self.invariant.seats;
      first = c.self.invariant.first;
    }

pub returns-clause-node : goal.returns-clause-node
returns-clause-node g c =
    let i = c.self.inside in
    let d = c.self.invariant.desk in
    let next = c.next_for in
    let w : ℕ = c.args.worker in
    let found = next-some next.result w i.scheduler.table.workers _ (IsNextNode i.scheduler.table.places i.scheduler.keys w) next.ensures.known next.ensures.node in
    subst (λ (os : List (Option ℕ)). IfSome next.result (λ n. MayTry g.G.Ground.plan os n w)) (sym (ap (λ (s : SchedulerView). s.owners) next.ensures.left))
    (may-some next.result g.G.Ground.plan i.scheduler w d.scheduler.nodes_are d.stands found)
