use Rattle.std.proofs.Common.{rules, ◌<◌, ap, length, List, Option, ℕ, subst, sym, ◌∙◌}
use Rattle.iso_desk.specs.Marking.{has}
use Rattle.iso_desk.specs.declared.place.Place.TheVariants.{Open}
use Rattle.iso_floor.specs.Desks.{IsDesk}
use Rattle.iso_floor.specs.KeyMarks.{KeysView}
use Rattle.iso_floor.specs.Parties.{owner_of}
use Rattle.iso_floor.specs.Schedulers.{SchedulerView}
use Rattle.iso_locks.specs.Trays.{TrayView}
use Rattle.iso_floor.specs.Successions.{ComeInTurn}
use Rattle.iso_plan.specs.Planned.{Planned}
use Rattle.iso_floor.proofs.DeskLemmas.{desk-new, rightly}
use Rattle.iso_floor.proofs.PlaceLemmas.{moved-kept}
use Rattle.iso_floor.proofs.SuccessionLemmas.{turns-kept}
use Rattle.iso_floor.proofs.RemainderLemmas.{left-kept}
use Rattle.iso_floor.proofs.UntouchedLemmas.{root-taken, untouched-new}
use Rattle.iso_floor.specs.Remainders.{HaveLeft}
use Rattle.iso_floor.specs.Untouched.{AreUntouched}
use Rattle.iso_book.specs.Books.{BookView}
use Rattle.iso_floor.proofs.desk.Desk.new.Goals as goal

pub invariant_of-result-2 : goal.invariant_of-result-2
invariant_of-result-2 g c =
    let p = c.args.plan.now in
    let new = c.in_ok-scheduler.ensures in
    let posted = c.post_root.ensures in
    let b = c.in_ok-new.field-0 in
    let tree = c.nodes_are_a_tree.ensures in
    record {
      desk =
          subst (λ (s : SchedulerView). IsDesk g.G.Ground.plan g.G.Ground.start g.G.Ground.workers b s) (sym c.scheduler.view_is)
          (desk-new g.G.Ground.plan g.G.Ground.start g.G.Ground.workers p c.args.world.now c.args.workers b c.post_root.new.scheduler c.requires.plan c.requires.start c.requires.workers
          c.in_ok-new.ensures c.nodes_are_a_tree.ensures
          (posted.sizes (length p.rows) c.args.workers new.sizes) (λ k. ap (λ (v : KeysView). has v.held k) posted.keys ∙ new.held k)
          (λ k. ap (λ (v : KeysView). has v.written k) posted.keys ∙ new.written k)
          (rightly c.in_ok-scheduler.scheduler c.post_root.new.scheduler p.rows posted.lines (new.lines p.rows)) (moved-kept _ _ _ 0 Open new.places posted.places)
          (posted.stands p new.stands) (λ m w e. new.owners m w (ap (λ (os : List (Option ℕ)). owner_of os m) (sym posted.owners) ∙ e))
          (λ e. new.root tree.rooted (posted.closes 0 e))
          (λ some. c.in_ok-post_root.ensures.posted (subst (λ (k : ℕ). 0 < k) (sym c.in_ok-seats.ensures.number) some) tree.rooted new.sizes.nodes_are));
      turns = λ some on.
          subst (λ (s : SchedulerView). ComeInTurn g.G.Ground.plan s) (sym c.scheduler.view_is)
          (subst (λ (x : Planned). ComeInTurn x c.post_root.new.scheduler) c.requires.plan
          (turns-kept (λ m. ⊥) p _ c.post_root.new.scheduler posted.sizes posted.closes posted.places posted.owners posted.passed
          (new.turns tree.rooted (subst (λ (k : ℕ). 0 < k) (sym c.requires.workers) some))));
      left = λ some on.
          subst (λ (s : SchedulerView). HaveLeft g.G.Ground.plan s) (sym c.scheduler.view_is)
          (subst (λ (x : Planned). HaveLeft x c.post_root.new.scheduler) c.requires.plan
          (left-kept (λ m. ⊥) p _ c.post_root.new.scheduler posted.left posted.places (new.left tree.rooted (subst (λ (k : ℕ). 0 < k) (sym c.requires.workers) some))));
      fresh = λ none.
          subst (λ (s : SchedulerView). AreUntouched b s.table.places) (sym c.scheduler.view_is)
          (subst (λ (x : BookView). AreUntouched x c.post_root.new.scheduler.table.places) (sym c.in_ok-new.ensures)
          (untouched-new p c.args.world.now c.args.workers c.post_root.new.scheduler.table.places
          (root-taken c.post_root.new.scheduler (λ e. new.root tree.rooted (posted.closes 0 e))
          (λ tree. rightly c.in_ok-scheduler.scheduler c.post_root.new.scheduler tree posted.lines (new.lines tree)))));
      seats = search rules;
      first = record {
        plan_is = ap (λ (t : TrayView). t.plan) c.in_ok-new-2.ensures ∙ c.requires.plan;
        world_is = ap (λ (t : TrayView). t.world) c.in_ok-new-2.ensures ∙ c.requires.start;
      };
    }
