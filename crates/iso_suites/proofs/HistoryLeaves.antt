-- How a history goes on by a Leave: the steps that its body still needs are made, and then it is accepted.
use Rattle.std.proofs.Common.{◌≡◌, ℕ, zero, suc, List, [], ◌∷◌, ◌++◌, Option, Some, None, Bool, true, false, not, ◌&&◌, replicate, is_none, inl, inr, refl, sym, ap, ◌∙◌, append-nil}
use Rattle.std.specs.Option.{option_or}
use Rattle.iso_isolation.proofs.Accepted.{HasBody, leave_told, step_told}
use Rattle.iso_isolation.proofs.Changes.{true_or_false}
use Rattle.iso_isolation.proofs.Going.{goes_on, leaves}
use Rattle.iso_isolation.proofs.Lists.{after_append, full_append, run_append}
use Rattle.iso_isolation.specs.Events as E
use Rattle.iso_isolation.specs.Events.{after, where_some}
use Rattle.iso_isolation.specs.Histories.{GoesOn, IsHistory, state_of}
use Rattle.iso_isolation.specs.Refusals as Why
use Rattle.iso_isolation.specs.Refusals.{Refused, body_of, first_of, refuse, refusal}
use Rattle.iso_isolation.specs.Runs.{after_all_of, full, is_accepted, is_run, steps_needed}
use Rattle.iso_isolation.specs.States.{first}
use Rattle.iso_isolation.specs.Suites.{Suite, SuiteLaws}
use Rattle.iso_lifecycle.specs.Subjects.{started}
use Rattle.iso_model.specs.Bodies.{is_ended}
use Rattle.iso_model.specs.declared.resource.Resource.{Resource}
use Rattle.iso_plan.specs.Paths.{IsTree}
use Rattle.iso_plan.specs.Planned.{Planned}
use Rattle.iso_plan.specs.RowView.{tree_of}
use Rattle.iso_settings.specs.Worlds.{Start}
use Rattle.iso_suites.proofs.BodyEnds.{scripts-end}
use Rattle.iso_suites.proofs.LanguageLaws.{scripts-laws}
use Rattle.iso_suites.proofs.StateRuns.{both-true}
use Rattle.iso_suites.proofs.SuiteLaws.{suite-laws}
use Rattle.iso_suites.specs.ScriptLanguage.{Head, scripts}
use Rattle.iso_suites.specs.SuiteStates.{RunState, GoesOnByLeave, IsReached, booking_refusal, suite_at}

-- where none of the first three of four kinds applies, the fourth decides
last-decides : (o p q r : Option Refused) → first_of (o ∷ p ∷ q ∷ []) ≡ None → first_of (o ∷ p ∷ q ∷ r ∷ []) ≡ option_or r None
last-decides (Some k) p q r e = absurd cc
last-decides None (Some k) q r e = absurd cc
last-decides None None (Some k) r e = absurd cc
last-decides None None None r e = refl

or-none : (k : Bool) → option_or (refuse k Why.BodyNotEnded) None ≡ refuse k Why.BodyNotEnded
or-none true = refl
or-none false = refl

module _ (x : Suite Head (List ℕ) Resource) (workers w : ℕ) where
  -- what each Step of a worker keeps, so many Steps keep
  pub kept-by-steps : (P : RunState → Type 0) → ((q : RunState) → HasBody scripts x workers q w → P q → P (after scripts x q (E.Step w)))
      → (i : ℕ) (q : RunState) → is_run scripts x workers q (replicate i (E.Step w)) ≡ true → P q → P (after_all_of scripts x q (replicate i (E.Step w)))
  kept-by-steps P step zero q run p = p
  kept-by-steps P step (suc i) q run p =
      let r = both-true (is_accepted scripts x workers q (E.Step w)) (is_run scripts x workers (after scripts x q (E.Step w)) (replicate i (E.Step w))) run in
      kept-by-steps P step i (after scripts x q (E.Step w)) r.1 (step q (step_told scripts x workers q w r.0) p)

module _ (plan : Planned) (world : Start) (workers : ℕ) (h : List E.Event) (w : ℕ)
    (tree : IsTree (tree_of plan)) (is : IsHistory scripts (suite_at plan world) workers h)
    (allowed : booking_refusal (suite_at plan world) workers (state_of scripts (suite_at plan world) h) w ≡ None) where
  abbrev x : Suite Head (List ℕ) Resource
  x = suite_at plan world

  abbrev s : RunState
  s = state_of scripts x h

  laws : SuiteLaws scripts x
  laws = suite-laws (tree_of plan) tree plan.settings (started world)

  decided : (j : Bool) → where_some (body_of scripts x workers s w) false (λ c. not (is_ended c)) ≡ j → refusal scripts x workers s (E.Leave w) ≡ refuse j Why.BodyNotEnded
  decided j e =
      last-decides (Why.stopped scripts x workers s) (Why.no_worker scripts x workers s w) (Why.no_body scripts x workers s w) (Why.body_not_ended scripts x workers s w) allowed
      ∙ ap (λ (k : Bool). option_or (refuse k Why.BodyNotEnded) None) e
      ∙ or-none j

  -- the history goes on by it
  goes : GoesOn scripts x workers h (E.Leave w)
  goes = elim (true_or_false (where_some (body_of scripts x workers s w) false (λ c. not (is_ended c)))) [
    | inl t ↦ leaves scripts x laws scripts-laws scripts-end workers h w is (decided true t)
    | inr f ↦ goes_on scripts x laws scripts-laws scripts-end workers h (E.Leave w) is refl (ap (λ (o : Option Refused). is_none o) (decided false f))
  ]

  abbrev needed : List E.Event
  needed = replicate (steps_needed scripts x s w) (E.Step w)

  -- the state once its steps were made
  abbrev stepped : RunState
  stepped = after_all_of scripts x s needed

  longer : full scripts x (first scripts x) (h ++ E.Leave w ∷ []) ≡ full scripts x (first scripts x) h ++ (needed ++ E.Leave w ∷ [])
  longer = full_append scripts x h (E.Leave w ∷ []) (first scripts x) ∙ ap (λ (fs : List E.Event). full scripts x (first scripts x) h ++ fs) (append-nil (needed ++ E.Leave w ∷ []))

  whole : is_run scripts x workers s (needed ++ E.Leave w ∷ []) ≡ true
  whole = (both-true (is_run scripts x workers (first scripts x) (full scripts x (first scripts x) h)) (is_run scripts x workers s (needed ++ E.Leave w ∷ []))
      (sym (run_append scripts x workers (full scripts x (first scripts x) h) (needed ++ E.Leave w ∷ []) (first scripts x))
      ∙ sym (ap (is_run scripts x workers (first scripts x)) longer) ∙ goes.history.run)).1

  parts : (is_run scripts x workers s needed ≡ true) × (is_run scripts x workers stepped (E.Leave w ∷ []) ≡ true)
  parts = both-true (is_run scripts x workers s needed) (is_run scripts x workers stepped (E.Leave w ∷ [])) (sym (run_append scripts x workers needed (E.Leave w ∷ []) s) ∙ whole)

  accepted : is_accepted scripts x workers stepped (E.Leave w) ≡ true
  accepted = (both-true (is_accepted scripts x workers stepped (E.Leave w)) true parts.1).0

  stepped-reached : IsReached plan world stepped
  stepped-reached = record {
    workers = workers;
    events = full scripts x (first scripts x) h ++ needed;
    run = run_append scripts x workers (full scripts x (first scripts x) h) needed (first scripts x) ∙ ap (λ (j : Bool). j && is_run scripts x workers s needed) is.run ∙ parts.0;
    state = after_append scripts x (full scripts x (first scripts x) h) needed (first scripts x);
  }

  pub goes-on-by-leave : GoesOnByLeave plan world workers h w
  goes-on-by-leave =
      let told = leave_told scripts x workers stepped w accepted in
      record {
        steps = steps_needed scripts x s w;
        before = stepped;
        made = refl;
        run = parts.0;
        reached = stepped-reached;
        node = told.has.node;
        body = told.has.body;
        busy = told.has.busy;
        there = told.has.here;
        over = told.over;
        history = goes.history;
        state = goes.state ∙ after_append scripts x needed (E.Leave w ∷ []) s;
      }
