use Rattle.std.proofs.Common.{◌≡◌, ◌≢◌, ◌<◌, ◌+◌, ℕ, ap, get_or, length, refl, subst, sym, true, ◌∙◌}
use Rattle.iso_desk.specs.declared.line.Line.TheVariants.{Key}
use Rattle.iso_desk.specs.Places.{StandsIn, place_of}
use Rattle.iso_desk.specs.declared.place.Place.TheVariants.{Closed, Loose}
use Rattle.iso_floor.specs.Parties.{StandRightly}
use Rattle.iso_floor.specs.Postings.{ClosesNone, IsPosted}
use Rattle.iso_floor.specs.Schedulers.{IsFor, SchedulerView, is_entered}
use Rattle.iso_model.specs.declared.script.Mode.TheVariants.{Concurrent, SameThread}
use Rattle.iso_floor.proofs.PartyLemmas.{child-told}
use Rattle.iso_floor.proofs.PostingLemmas.{PostedBelow, closes-put, posted-all, posted-more, put-there}
use Rattle.iso_floor.proofs.posting.post_children.Goals as goal
use Rattle.iso_floor.proofs.posting.post_children.Goals.{then-is_concurrent+else-is_err, else-is_concurrent}

pub children-preserved : goal.children-preserved
children-preserved c =
    let before = c.children.invariant in
    let plan = c.args.plan.now in
    let told = c.children_of-child-items.ensures in
    let items = c.children_of-child-items.result.now in
    let i = c.children.child-index in
    let child = get_or items i 0 in
    let is = child-told plan c.args.class items i told.children told.past c.children-test.true in
    let of_plan : length c.args.scheduler.now.table.places ≡ length plan.rows → IsFor (length plan.rows) c.args.scheduler.now.table.workers c.args.scheduler.now =
    λ sizes. record { nodes_are = sizes; workers_are = refl } in
    elim c.if-is_concurrent.branch [
      | then-is_concurrent+else-is_err w ↦
          let posted = w.post-then-is_concurrent.ensures in
          let cur = c.children.scheduler in
          let put_loose : ClosesNone cur.table.places w.post-then-is_concurrent.new.self.table.places =
          subst (λ (s : SchedulerView). ClosesNone cur.table.places s.table.places) (sym posted.step) (closes-put cur.table child Loose (λ f. cc)) in
          record {
            sizes = λ nodes workers f. subst (IsFor nodes workers) (sym w.scheduler-is) (posted.sizes nodes workers (before.sizes nodes workers f));
            lines = λ n l st. before.lines n l (posted.lines n l (subst (λ (s : SchedulerView). StandsIn s.table.places (Key l) n) w.scheduler-is st));
            places = λ n e.
                let there : is_entered (place_of w.post-then-is_concurrent.new.self.table.places n) ≡ true =
                subst (λ (s : SchedulerView). is_entered (place_of s.table.places n) ≡ true) w.scheduler-is e in
                let same = posted.places n there in
                ap (λ (s : SchedulerView). place_of s.table.places n) w.scheduler-is ∙ same ∙ before.places n (ap is_entered (sym same) ∙ there);
            keys = ap (λ (s : SchedulerView). s.keys) (w.scheduler-is ∙ posted.step) ∙ before.keys;
            owners = ap (λ (s : SchedulerView). s.owners) (w.scheduler-is ∙ posted.step) ∙ before.owners;
            passed = ap (λ (s : SchedulerView). s.passed) (w.scheduler-is ∙ posted.step) ∙ before.passed;
            left = ap (λ (s : SchedulerView). s.left) (w.scheduler-is ∙ posted.step) ∙ before.left;
            bypassed = ap (λ (s : SchedulerView). s.bypassed) (w.scheduler-is ∙ posted.step) ∙ before.bypassed;
            stands = λ p right. subst (λ (s : SchedulerView). StandRightly p s.owners s.table.places) (sym w.scheduler-is) (posted.stands p (before.stands p right));
            closes = λ n e. before.closes n (put_loose n (ap (λ (s : SchedulerView). place_of s.table.places n) (sym w.scheduler-is) ∙ e));
            posted = λ sizes.
                let room : child < length cur.table.places = subst (λ (k : ℕ). child < k) (sym (before.sizes _ _ (of_plan sizes)).nodes_are) is.within in
                subst (λ (s : SchedulerView). PostedBelow plan items (i + 1) s.table.places) (sym w.scheduler-is)
                (posted-more plan items i cur.table.places w.post-then-is_concurrent.new.self.table.places put_loose
                (λ free. subst (λ (s : SchedulerView). place_of s.table.places child ≢ Closed) (sym posted.step) (put-there cur.table child Loose (λ f. cc) room)) (before.posted sizes));
          }
      | else-is_concurrent w ↦
          record {
            sizes = λ nodes workers f. subst (IsFor nodes workers) (sym w.scheduler-is) (before.sizes nodes workers f);
            lines = λ n l st. before.lines n l (subst (λ (s : SchedulerView). StandsIn s.table.places (Key l) n) w.scheduler-is st);
            places = λ n e.
                ap (λ (s : SchedulerView). place_of s.table.places n) w.scheduler-is
                ∙ before.places n (subst (λ (s : SchedulerView). is_entered (place_of s.table.places n) ≡ true) w.scheduler-is e);
            keys = ap (λ (s : SchedulerView). s.keys) w.scheduler-is ∙ before.keys;
            owners = ap (λ (s : SchedulerView). s.owners) w.scheduler-is ∙ before.owners;
            passed = ap (λ (s : SchedulerView). s.passed) w.scheduler-is ∙ before.passed;
            left = ap (λ (s : SchedulerView). s.left) w.scheduler-is ∙ before.left;
            bypassed = ap (λ (s : SchedulerView). s.bypassed) w.scheduler-is ∙ before.bypassed;
            stands = λ p right. subst (λ (s : SchedulerView). StandRightly p s.owners s.table.places) (sym w.scheduler-is) (before.stands p right);
            closes = λ n e. before.closes n (ap (λ (s : SchedulerView). place_of s.table.places n) (sym w.scheduler-is) ∙ e);
            posted = λ sizes.
                subst (λ (s : SchedulerView). PostedBelow plan items (i + 1) s.table.places) (sym w.scheduler-is)
                (posted-more plan items i c.children.scheduler.table.places c.children.scheduler.table.places (λ n e. e)
                (λ free. let wrong : Concurrent ≡ SameThread = sym free ∙ c.is_concurrent.ensures.no is.within w.if-is_concurrent.false in absurd (cc)) (before.posted sizes));
          }
    ]

pub returns-then-class-gt0-clause-lines : goal.returns-then-class-gt0-clause-lines
returns-then-class-gt0-clause-lines c =
    λ n l st. c.children.invariant.lines n l (subst (λ (s : SchedulerView). StandsIn s.table.places (Key l) n) c.count_round.ensures.same st)

pub returns-then-class-gt0-clause-places : goal.returns-then-class-gt0-clause-places
returns-then-class-gt0-clause-places c =
    let round = c.count_round.ensures.same in
    λ n e.
    ap (λ (s : SchedulerView). place_of s.table.places n) round
    ∙ c.children.invariant.places n (subst (λ (s : SchedulerView). is_entered (place_of s.table.places n) ≡ true) round e)

pub returns-then-class-gt0-clause-stands : goal.returns-then-class-gt0-clause-stands
returns-then-class-gt0-clause-stands c =
    λ p right. subst (λ (s : SchedulerView). StandRightly p s.owners s.table.places) (sym c.count_round.ensures.same) (c.children.invariant.stands p right)

pub returns-then-class-gt0-clause-closes : goal.returns-then-class-gt0-clause-closes
returns-then-class-gt0-clause-closes c =
    λ n e. c.children.invariant.closes n (ap (λ (s : SchedulerView). place_of s.table.places n) (sym c.count_round.ensures.same) ∙ e)

pub returns-then-class-gt0-clause-posted : goal.returns-then-class-gt0-clause-posted
returns-then-class-gt0-clause-posted c =
    let plan = c.args.plan.now in
    let class = c.args.class in
    λ low sizes.
    subst (λ (s : SchedulerView). IsPosted plan class s.table.places) (sym c.count_round.ensures.same)
    (posted-all plan class c.children_of-child-items.result.now c.children.child-index c.children.scheduler.table.places (c.children_of-child-items.ensures.children low) c.children-test.false
    (c.children.invariant.posted sizes))

pub returns-else-posted-clause-posted : goal.returns-else-posted-clause-posted
returns-else-posted-clause-posted c =
    λ low sizes.
    posted-all c.args.plan.now c.args.class c.children_of-child-items.result.now c.children.child-index c.children.scheduler.table.places (c.children_of-child-items.ensures.children low)
    c.children-test.false (c.children.invariant.posted sizes)
