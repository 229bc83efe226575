-- The run that a book's history is in full, and how it goes on by an Enter or a Shut that nothing refuses.
use Rattle.std.proofs.Common.{◌≡◌, ℕ, ◌<◌, List, [], ◌∷◌, ◌++◌, Option, None, Bool, true, false, is_none, leb, length, not, refl, sym, ap, ◌∙◌, subst, arith}
use Rattle.std.proofs.Math.Dec.{eqb}
use Rattle.std.proofs.lemmas.Bool.{eqb-true}
use Rattle.iso_book.specs.Books.{BookView, refusal_in, state_in, suite_in, with_event}
use Rattle.iso_isolation.proofs.Accepted.{MayShut, enter_passes, enter_told, in_plan, not_refused, shut_passes, shut_told}
use Rattle.iso_isolation.proofs.Going.{goes_on}
use Rattle.iso_isolation.proofs.LockEvents.{MayEnter}
use Rattle.iso_isolation.specs.Events as E
use Rattle.iso_isolation.specs.Events.{after}
use Rattle.iso_isolation.specs.Histories.{GoesOn, IsHistory, has_no_step, state_of}
use Rattle.iso_isolation.specs.Refusals as Why
use Rattle.iso_isolation.specs.Refusals.{Refused, refusal}
use Rattle.iso_isolation.specs.Runs.{after_all_of, full, is_accepted, with_steps}
use Rattle.iso_isolation.specs.States.{first}
use Rattle.iso_isolation.specs.Suites.{SuiteLaws}
use Rattle.iso_lifecycle.specs.Subjects.{started}
use Rattle.iso_plan.specs.Paths.{IsTree}
use Rattle.iso_plan.specs.Planned.{Planned}
use Rattle.iso_plan.specs.RowView.{tree_of}
use Rattle.iso_settings.specs.Worlds.{Start}
use Rattle.iso_standing.proofs.EventLists.{map-append}
use Rattle.iso_standing.proofs.Looks.{nodes-are}
use Rattle.iso_standing.specs.CodeEvents.{event_of, events_of}
use Rattle.iso_standing.specs.Standings as Standings
use Rattle.iso_standing.specs.Standings.{Standing, workers_in}
use Rattle.iso_standing.specs.declared.event.Event.{Event}
use Rattle.iso_standing.specs.declared.event.Event.TheVariants as Code
use Rattle.iso_suites.proofs.BodyEnds.{scripts-end}
use Rattle.iso_suites.proofs.LanguageLaws.{scripts-laws}
use Rattle.iso_suites.proofs.StateRuns.{as-is, stopped-after, stopped-run}
use Rattle.iso_suites.proofs.SuiteLaws.{suite-laws}
use Rattle.iso_suites.specs.PlanSuites.{suite_of}
use Rattle.iso_suites.specs.ScriptLanguage.{scripts}
use Rattle.iso_suites.specs.SuiteStates.{IsReached, RunState, stopped_if}

-- what contracts see of a book with these parts
abbrev pub book_of : Planned → Start → ℕ → Bool → List Event → BookView
book_of plan world workers stopped es = record { plan = plan; world = world; workers = workers; history = es; stopped = stopped }

not-not : (p : Bool) → not p ≡ false → p ≡ true
not-not true e = refl
not-not false e = absurd cc

module _ (b : BookView) where
  -- the state of its history, were it not stopped
  abbrev pub run_state : RunState
  run_state = state_of scripts (suite_in b) (events_of b.history)

  abbrev pub IsRunOf : Type 0
  IsRunOf = IsHistory scripts (suite_in b) b.workers (events_of b.history)

  abbrev whole : List E.Event
  whole = full scripts (suite_in b) (first scripts (suite_in b)) (events_of b.history)

  pub run-goes-on : run_state.stopped ≡ false
  run-goes-on = stopped-run (suite_in b) whole (first scripts (suite_in b))

  pub going-on : b.stopped ≡ false → state_in b ≡ run_state
  going-on h = ap (λ (t : Bool). stopped_if t run_state) h ∙ as-is false run_state run-goes-on

  pub run-reached : IsRunOf → IsReached b.plan b.world run_state
  run-reached is = record { workers = b.workers; events = whole; run = is.run; state = refl }

  pub reached : IsRunOf → b.stopped ≡ false → IsReached b.plan b.world (state_in b)
  reached is h = subst (λ (s : RunState). IsReached b.plan b.world s) (sym (going-on h)) (run-reached is)

  pub laws-in : IsTree (tree_of b.plan) → SuiteLaws scripts (suite_in b)
  laws-in tree = suite-laws (tree_of b.plan) tree b.plan.settings (started b.world)

  accepted : (e : Event) → refusal_in b e ≡ None → is_accepted scripts (suite_in b) b.workers (state_in b) (event_of e) ≡ true
  accepted e h = ap (λ (o : Option Refused). is_none o) h

  -- its history goes on by an event that stands for itself alone
  module _ (e : Event) (alone : has_no_step (event_of e ∷ []) ≡ true) (plain : (s : RunState) → with_steps scripts (suite_in b) s (event_of e) ≡ event_of e ∷ [])
      (allowed : refusal_in b e ≡ None) (on : b.stopped ≡ false) (tree : IsTree (tree_of b.plan)) (is : IsRunOf) where
    goes : GoesOn scripts (suite_in b) b.workers (events_of b.history) (event_of e)
    goes =
        goes_on scripts (suite_in b) (laws-in tree) scripts-laws scripts-end b.workers (events_of b.history) (event_of e) is alone
        (subst (λ (s : RunState). is_accepted scripts (suite_in b) b.workers s (event_of e) ≡ true) (going-on on) (accepted e allowed))

    pub history-next : IsHistory scripts (suite_in b) b.workers (events_of (b.history ++ e ∷ []))
    history-next =
        subst (λ (es : List E.Event). IsHistory scripts (suite_in b) b.workers es) (sym (map-append b.history (e ∷ []))) goes.history

    run-next : state_of scripts (suite_in b) (events_of (b.history ++ e ∷ [])) ≡ after scripts (suite_in b) run_state (event_of e)
    run-next =
        ap (state_of scripts (suite_in b)) (map-append b.history (e ∷ []))
        ∙ goes.state
        ∙ ap (after_all_of scripts (suite_in b) run_state) (plain run_state)

    pub state-next : state_in (with_event b e) ≡ after scripts (suite_in b) (state_in b) (event_of e)
    state-next =
        ap (stopped_if b.stopped) run-next
        ∙ ap (λ (t : Bool). stopped_if t (after scripts (suite_in b) run_state (event_of e))) on
        ∙ as-is false (after scripts (suite_in b) run_state (event_of e)) (stopped-after (suite_in b) run_state (event_of e) ∙ run-goes-on)
        ∙ ap (λ (s : RunState). after scripts (suite_in b) s (event_of e)) (sym (going-on on))

  module _ (w n : ℕ) where
    module _ (allowed : refusal_in b (Code.Enter w n) ≡ None) where
      pub unstopped-enter : b.stopped ≡ false
      unstopped-enter =
          not_refused b.stopped Why.Stopped (enter_passes scripts (suite_in b) b.workers (state_in b) w n (accepted (Code.Enter w n) allowed)).running

      pub may-enter : IsTree (tree_of b.plan) → MayEnter (suite_in b) (state_in b).nodes.status n
      may-enter tree = enter_told scripts (suite_in b) b.workers (state_in b) (laws-in tree) w n (accepted (Code.Enter w n) allowed)

      pub lock-free : Why.lock_held scripts (suite_in b) b.workers (state_in b) n ≡ None
      lock-free = (enter_passes scripts (suite_in b) b.workers (state_in b) w n (accepted (Code.Enter w n) allowed)).unlocked

    module _ (allowed : refusal_in b (Code.Shut w n) ≡ None) where
      pub unstopped-shut : b.stopped ≡ false
      unstopped-shut =
          not_refused b.stopped Why.Stopped (shut_passes scripts (suite_in b) b.workers (state_in b) w n (accepted (Code.Shut w n) allowed)).running

      pub may-shut : MayShut scripts (suite_in b) b.workers (state_in b) n
      may-shut = shut_told scripts (suite_in b) b.workers (state_in b) w n (accepted (Code.Shut w n) allowed)

      -- the class is in the plan
      pub within-shut : n < length b.plan.rows
      within-shut =
          let none = (shut_passes scripts (suite_in b) b.workers (state_in b) w n (accepted (Code.Shut w n) allowed)).node in
          let less = in_plan (suite_in b).nodes n (not_refused (leb (suite_in b).nodes n) Why.NoNode none) in
          let count = nodes-are b.plan in
          omega (arith, less, count)

      -- and its owner is who shuts it
      pub own-shut : (state_in b).owner n ≡ w
      own-shut =
          let none = (shut_passes scripts (suite_in b) b.workers (state_in b) w n (accepted (Code.Shut w n) allowed)).owner in
          eqb-true ((state_in b).owner n) w (not-not (eqb ((state_in b).owner n) w) (not_refused (not (eqb ((state_in b).owner n) w)) Why.NotOwner none))

-- its standing refuses what the state machine refuses
pub refusal-is : (b : BookView) (v : Standing) → v.plan ≡ b.plan → workers_in v ≡ b.workers → (e : Event) → Standings.refusal_in v (started b.world) (state_in b) (event_of e) ≡ refusal_in b e
refusal-is b v of_plan workers e =
    ap (λ (p : Planned). refusal scripts (suite_of (tree_of p) p.settings (started b.world)) (workers_in v) (state_in b) (event_of e)) of_plan
    ∙ ap (λ (m : ℕ). refusal scripts (suite_in b) m (state_in b) (event_of e)) workers
