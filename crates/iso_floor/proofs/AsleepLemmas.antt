-- That each worker that is named is one of the run's, and what is left of a run where workers wait.
use Rattle.std.proofs.Common.{◌≡◌, ◌≢◌, ◌⊎◌, ℕ, ◌<◌, List, length, Option, Some, None, is_none, is_some, Bool, true, false, not, leb, ap, sym, subst, ◌∙◌, inl, inr, refl}
use Rattle.std.proofs.lemmas.Bool.{cases_lt}
use Rattle.std.proofs.lemmas.List.{get_or_past}
use Rattle.iso_book.proofs.Runs.{going-on, laws-in, may-shut, own-shut, run_state, within-shut}
use Rattle.iso_book.specs.Books.{BookView, refusal_in, state_in, suite_in}
use Rattle.iso_book.specs.Progress.{owner_in, phase_in}
use Rattle.iso_desk.specs.Crews.{awaits, fresh, member_of}
use Rattle.iso_desk.specs.Places.{IsEmpty, StandsIn, line_in, place_of}
use Rattle.iso_desk.specs.declared.crew.Member.{Member}
use Rattle.iso_desk.specs.declared.line.Line.{Line}
use Rattle.iso_desk.specs.declared.line.Line.TheVariants.{Key, Own}
use Rattle.iso_desk.specs.declared.line.Party.{Party}
use Rattle.iso_desk.specs.declared.line.Party.TheVariants.{Everyone, Worker}
use Rattle.iso_desk.specs.declared.place.Place.{Place}
use Rattle.iso_desk.specs.declared.place.Place.TheVariants.{Closed, InLine, Loose, Open, Over, With}
use Rattle.iso_floor.specs.Answering.{HasRun}
use Rattle.iso_floor.specs.Asleep.{AreWorkers, CanShutNone, IsAsleep, IsElsewhere, IsEnterLeft, IsOfKey, IsPartyOf, IsShutLeft, IsUnfound, NamesOneOf}
use Rattle.iso_floor.specs.Desks.{AreClosed, AreOwners, CanEnterNone, DeskView, IsAt, IsDesk}
use Rattle.iso_floor.specs.Parties.{BelongsTo, IsOwned, StandRightly, owner_of, party_in}
use Rattle.iso_floor.specs.Postings.{ComesLater}
use Rattle.iso_floor.specs.Schedulers.{HasNothingIn, SchedulerView, is_entered}
use Rattle.iso_isolation.proofs.Accepted.{enter_passes, in_plan, leave_passes, not_refused, shut_passes, step_passes}
use Rattle.iso_isolation.specs.Events as I
use Rattle.iso_isolation.specs.Refusals as Why
use Rattle.iso_isolation.specs.Runs.{full, is_accepted}
use Rattle.iso_isolation.specs.States as States
use Rattle.iso_isolation.specs.States.{Status, first, is_at_rest, is_held}
use Rattle.iso_lifecycle.specs.Subjects.{started}
use Rattle.iso_model.specs.Bodies.{Stage}
use Rattle.iso_model.specs.Openings.{Frame}
use Rattle.iso_model.specs.declared.outcome.Outcome.{Outcome}
use Rattle.iso_plan.specs.Paths.{IsTree, parent}
use Rattle.iso_plan.specs.Planned.{Planned}
use Rattle.iso_plan.specs.RowView.{tree_of}
use Rattle.iso_progress.proofs.Answering.{accepts}
use Rattle.iso_progress.proofs.Reaching.{reached}
use Rattle.iso_progress.specs.NeverStuck.{IsReached}
use Rattle.iso_progress.specs.ProgressLaws.{ProgressLaws}
use Rattle.iso_settings.specs.Worlds.{Start}
use Rattle.iso_standing.specs.CodeEvents.{events_of}
use Rattle.iso_standing.specs.Phases.{phase_of}
use Rattle.iso_standing.specs.declared.event.Event.TheVariants.{Enter, Shut}
use Rattle.iso_standing.specs.declared.phase.Phase.TheVariants as P
use Rattle.iso_suites.proofs.LanguageLaws.{scripts-laws}
use Rattle.iso_suites.proofs.Progressing.{progress-laws}
use Rattle.iso_suites.specs.ScriptLanguage.{scripts}
use Rattle.iso_floor.proofs.DeskLemmas.{desk-none}

pub more-laws : (b : BookView) → IsTree (tree_of b.plan) → ProgressLaws scripts (suite_in b)
more-laws b tree = progress-laws (tree_of b.plan) tree b.plan.settings (started b.world)

-- in each state of a run each node's owner is one of its workers
owners-below : (b : BookView) → IsTree (tree_of b.plan) → HasRun b → 0 < b.workers → (n : ℕ) → owner_in b n < b.workers
owners-below b tree run some n =
    let r : IsReached scripts (suite_in b) b.workers (run_state b) =
    record { manned = some; events = full scripts (suite_in b) (first scripts (suite_in b)) (events_of b.history); run = run.run; state = refl } in
    (reached scripts (suite_in b) (laws-in b tree) scripts-laws (more-laws b tree) b.workers (run_state b) r).staffed.owned n

-- so is each worker that is named
module _ (b : BookView) (s : SchedulerView) (below : (n : ℕ) → owner_in b n < b.workers) (are : AreOwners b s.owners) where
  owner-below : (n w : ℕ) → owner_of s.owners n ≡ Some w → w < b.workers
  owner-below n w e = subst (λ (k : ℕ). k < b.workers) (are n w e).owner (below n)

  owned-below : (n w : ℕ) → IsOwned b.plan s.owners n w → w < b.workers
  owned-below n w (inl e) = owner-below n w e
  owned-below n w (inr h) = owner-below (parent (tree_of b.plan) n) w h.1

  party-below : (n : ℕ) (p : Party) → BelongsTo b.plan s.owners n p → IsPartyOf b.workers p
  party-below n Everyone h = tt
  party-below n (Worker w) h = owned-below n w h

  names-one : (n : ℕ) (p : Place) → IsAt b n p → ((l : Line) → line_in p ≡ Some l → BelongsTo b.plan s.owners n (party_in l)) → NamesOneOf b.workers p
  names-one n Closed at own = tt
  names-one n Loose at own = tt
  names-one n (InLine t) at own = party-below n (party_in t.line) (own t.line refl)
  names-one n (With w) at own = subst (λ (k : ℕ). k < b.workers) at.1 (below n)
  names-one n Open at own = tt
  names-one n Over at own = tt

  are-workers : ((n : ℕ) → IsAt b n (place_of s.table.places n)) → StandRightly b.plan s.owners s.table.places → AreWorkers b.workers s
  are-workers at right =
      record { places = λ n. names-one n (place_of s.table.places n) (at n) (λ l e. right n l e); owners = owner-below }

rest-held : (st : Status Stage Frame Outcome) → is_at_rest st ≡ true → is_held st ≡ true
rest-held States.Waiting e = absurd (cc)
rest-held (States.Begun b) e = refl
rest-held (States.Open fs) e = refl
rest-held (States.Barred fs) e = refl
rest-held (States.Closing fs b) e = refl
rest-held (States.Finished r) e = absurd (cc)

rest-unfinished : (st : Status Stage Frame Outcome) → is_at_rest st ≡ true → phase_of st ≢ P.Finished
rest-unfinished States.Waiting e f = absurd (cc)
rest-unfinished (States.Begun b) e f = absurd (cc)
rest-unfinished (States.Open fs) e f = absurd (cc)
rest-unfinished (States.Barred fs) e f = absurd (cc)
rest-unfinished (States.Closing fs b) e f = absurd (cc)
rest-unfinished (States.Finished r) e f = absurd (cc)

-- where a class stands that the book would let a worker shut in whose own line nobody stands
module _ (b : BookView) (places : List Place) (at : (n : ℕ) → IsAt b n (place_of places n)) (closed : AreClosed b places) (w n : ℕ) (none : refusal_in b (Shut w n) ≡ None)
    (empty : IsEmpty places (Own w)) where
  shut-place : (p : Place) → place_of places n ≡ p → IsElsewhere w p
  shut-place Closed e =
      let held = rest-held ((state_in b).nodes.status n) (may-shut b w n none).rests in
      let free = (closed n (within-shut b w n none) e).1 in
      let wrong : true ≡ false = sym held ∙ free in
      absurd (cc)
  shut-place Loose e = tt
  shut-place (InLine t) e = λ own. empty n (ap line_in e ∙ ap (λ (l : Line). Some l) own)
  shut-place (With v) e = let is : IsAt b n (With v) = subst (IsAt b n) e (at n) in sym is.1 ∙ own-shut b w n none
  shut-place Open e = tt
  shut-place Over e =
      let is : phase_in b n ≡ P.Finished = subst (IsAt b n) e (at n) in
      absurd (rest-unfinished ((state_in b).nodes.status n) (may-shut b w n none).rests is)

-- a worker that is kept as one that waits is kept
pub awaits-below : (ms : List Member) (w : ℕ) → awaits (member_of ms w) ≡ true → w < length ms
awaits-below ms w e =
    elim (cases_lt w (length ms)) [
      | inl low ↦ low
      | inr high ↦ let wrong : true ≡ false = sym e ∙ ap awaits (get_or_past ms w fresh high) in absurd (cc)
    ]

none-refused : (o : Option Why.Refused) → is_none o ≡ true → o ≡ None
none-refused None e = refl
none-refused (Some r) e = absurd (cc)

-- a run that sleeps isn't stuck, so something is left
module _ (d : DeskView) (tree : IsTree (tree_of d.book.plan)) (run : HasRun d.book) (asleep : IsAsleep d) (are : AreWorkers d.book.workers d.scheduler)
    (enter : (w : ℕ) → w < d.book.workers → CanEnterNone d w) (shut : (w : ℕ) → w < d.book.workers → CanShutNone d w) where
  enter-left : (w n : ℕ) → w < d.book.workers → refusal_in d.book (Enter w n) ≡ None → (p : Place) → place_of d.scheduler.table.places n ≡ p
      → (place_of d.scheduler.table.places n ≡ Loose)
      ⊎ ((place_of d.scheduler.table.places n ≡ Closed) × ComesLater d.book.plan d.scheduler.table.places n)
  enter-left w n low none Closed e = inr (e, (enter w low).closed n e none)
  enter-left w n low none Loose e = inl e
  enter-left w n low none (InLine t) e = absurd ((enter w low).elsewhere n t.line (ap line_in e) none)
  enter-left w n low none (With v) e = absurd ((enter w low).entered n (ap is_entered e) none)
  enter-left w n low none Open e = absurd ((enter w low).entered n (ap is_entered e) none)
  enter-left w n low none Over e = absurd ((enter w low).entered n (ap is_entered e) none)

  of-key : (l : Line) (n : ℕ) → StandsIn d.scheduler.table.places l n → IsPartyOf d.book.workers (party_in l) → IsOfKey l
  of-key (Key k) n stands low = tt
  of-key (Own v) n stands low = (enter v low).own n stands

  shut-left : (w n : ℕ) (p : Place) → place_of d.scheduler.table.places n ≡ p → IsElsewhere w p → IsUnfound p
  shut-left w n Closed e is = is
  shut-left w n Loose e is = tt
  shut-left w n (InLine t) e is =
      let named : NamesOneOf d.book.workers (InLine t) = subst (NamesOneOf d.book.workers) e (are.places n) in
      of-key t.line n (ap line_in e) named
  shut-left w n (With v) e is = tt
  shut-left w n Open e is = tt
  shut-left w n Over e is = is

  at-work : (w : ℕ) → w < d.book.workers → Why.no_body scripts (suite_in d.book) d.book.workers (state_in d.book) w ≡ None → IsEnterLeft d ⊎ IsShutLeft d
  at-work w low e =
      let body = Why.body_of scripts (suite_in d.book) d.book.workers (state_in d.book) w in
      let wrong : true ≡ false = sym (ap not (asleep.idle w low)) ∙ not_refused (not (is_some body)) Why.NoBody e in
      absurd (cc)

  by-event : (e : I.Event) → is_accepted scripts (suite_in d.book) d.book.workers (state_in d.book) e ≡ true → IsEnterLeft d ⊎ IsShutLeft d
  by-event (I.Enter w n) ok =
      let passes = enter_passes scripts (suite_in d.book) d.book.workers (state_in d.book) w n ok in
      let low = in_plan d.book.workers w (not_refused (leb d.book.workers w) Why.NoWorker passes.worker) in
      let none : refusal_in d.book (Enter w n) ≡ None = none-refused (refusal_in d.book (Enter w n)) ok in
      inl (record { worker = w; node = n; below = low; taken = none; place = enter-left w n low none (place_of d.scheduler.table.places n) refl })
  by-event (I.Shut w n) ok =
      let passes = shut_passes scripts (suite_in d.book) d.book.workers (state_in d.book) w n ok in
      let low = in_plan d.book.workers w (not_refused (leb d.book.workers w) Why.NoWorker passes.worker) in
      let none : refusal_in d.book (Shut w n) ≡ None = none-refused (refusal_in d.book (Shut w n)) ok in
      let p = place_of d.scheduler.table.places n in
      inr (record { worker = w; class = n; below = low; taken = none; place = shut-left w n p refl (shut w low n none) })
  by-event (I.Step w) ok =
      let passes = step_passes scripts (suite_in d.book) d.book.workers (state_in d.book) w ok in
      at-work w (in_plan d.book.workers w (not_refused (leb d.book.workers w) Why.NoWorker passes.worker)) passes.body
  by-event (I.Leave w) ok =
      let passes = leave_passes scripts (suite_in d.book) d.book.workers (state_in d.book) w ok in
      at-work w (in_plan d.book.workers w (not_refused (leb d.book.workers w) Why.NoWorker passes.worker)) passes.body

  something-left : IsEnterLeft d ⊎ IsShutLeft d
  something-left =
      let b = d.book in
      let r : IsReached scripts (suite_in b) b.workers (state_in b) =
      record {
        manned = asleep.manned;
        events = full scripts (suite_in b) (first scripts (suite_in b)) (events_of b.history);
        run = run.run;
        state = sym (going-on b asleep.running);
      } in
      let a = accepts scripts (suite_in b) (laws-in b tree) scripts-laws (more-laws b tree) b.workers (state_in b) r asleep.unfinished in
      by-event a.event a.accepted

-- of a desk
module _ (plan : Planned) (start : Start) (workers : ℕ) (b : BookView) (s : SchedulerView) (d : IsDesk plan start workers b s) (p : Planned) (tree : IsTree (tree_of p)) (own : p ≡ b.plan) where
  tree-of : IsTree (tree_of b.plan)
  tree-of = subst (λ (x : Planned). IsTree (tree_of x)) own tree

  pub desk-shuts : (w : ℕ) (is_over : Bool) (seen : Option ℕ) → HasNothingIn s is_over w seen → CanShutNone (record { book = b; scheduler = s }) w
  desk-shuts w is_over seen nothing n none =
      shut-place b s.table.places d.places d.closed w n none nothing.own (place_of s.table.places n) refl

  workers-of : HasRun b → 0 < b.workers → AreWorkers b.workers s
  workers-of run some =
      are-workers b s (owners-below b tree-of run some) d.owners d.places (subst (λ (x : Planned). StandRightly x s.owners s.table.places) (sym d.book.plan_is) d.stands)

  pub desk-workers : HasRun b → 0 < workers → AreWorkers workers s
  desk-workers run some =
      subst (λ (k : ℕ). AreWorkers k s) d.book.workers_are (workers-of run (subst (λ (k : ℕ). 0 < k) (sym d.book.workers_are) some))

  pub desk-left-asleep : HasRun b → (is_over : Bool)
      → ((w : ℕ) → w < length s.members → awaits (member_of s.members w) ≡ true → HasNothingIn s is_over w (member_of s.members w).seen)
      → IsAsleep (record { book = b; scheduler = s }) → IsEnterLeft (record { book = b; scheduler = s }) ⊎ IsShutLeft (record { book = b; scheduler = s })
  desk-left-asleep run is_over nothing asleep =
      let none : (w : ℕ) → w < b.workers → HasNothingIn s is_over w (member_of s.members w).seen =
      λ w low. let waits = asleep.waits w low in nothing w (awaits-below s.members w waits) waits in
      something-left (record { book = b; scheduler = s }) tree-of run asleep (workers-of run asleep.manned)
      (λ w low. desk-none plan start workers b s w is_over (member_of s.members w).seen p tree own d (none w low))
      (λ w low. desk-shuts w is_over (member_of s.members w).seen (none w low))
