-- The state of a core: how it goes on by an event, and what refuses it.
use Rattle.std.proofs.Common.{◌≡◌, ℕ, ◌≤◌, List, [], ◌∷◌, Option, Some, None, Bool, true, false, ◌&&◌, is_none, refl, sym, ap, ◌∙◌, subst}
use Rattle.iso_core.specs.Cores.{CoreView, refusal_in, state_in, suite_in, with_event}
use Rattle.iso_standing.proofs.EventLists.{map-append}
use Rattle.iso_suites.proofs.StateRuns.{as-is, idle-run, stopped-run}
use Rattle.iso_suites.specs.ScriptLanguage.{scripts}
use Rattle.iso_standing.specs.Standings.{Standing, workers_in}
use Rattle.iso_suites.specs.SuiteStates.{RunState, IsReached, stopped_if}
use Rattle.iso_isolation.proofs.Lists.{after_append, run_on}
use Rattle.iso_isolation.specs.Events as E
use Rattle.iso_isolation.specs.Events.{after}
use Rattle.iso_isolation.specs.Refusals as Why
use Rattle.iso_isolation.specs.Refusals.{Refused, first_of, kinds, refuse}
use Rattle.iso_isolation.specs.Runs.{after_all_of, is_accepted, is_run}
use Rattle.iso_isolation.specs.States.{first}
use Rattle.iso_plan.specs.Planned.{Planned}
use Rattle.iso_standing.specs.CodeEvents.{event_of, events_of}
use Rattle.iso_standing.specs.declared.event.Event.{Event}
use Rattle.iso_standing.specs.declared.event.Event.TheVariants as Code
use Rattle.iso_settings.specs.Worlds.{Start}

abbrev tail-of : List (Option Refused) → List (Option Refused)
tail-of [] = []
tail-of (o ∷ os) = os

first-is : (r : Refused) (o : Option Refused) (os : List (Option Refused)) → o ≡ Some r → first_of (o ∷ os) ≡ Some r
first-is r None os e = absurd cc
first-is r (Some q) os e = e

-- what contracts see of a core with this standing, that accepted these events
abbrev pub core_of : Planned → Start → Standing → List Event → CoreView
core_of plan world v es = record { plan = plan; world = world; workers = workers_in v; events = es; stopped = v.stopped }

-- the state after the events that it accepted, were it not stopped
abbrev pub run_state : CoreView → RunState
run_state c = after_all_of scripts (suite_in c) (first scripts (suite_in c)) (events_of c.events)

-- the events that it accepted are a run
abbrev pub IsRun : CoreView → Type 0
IsRun c = is_run scripts (suite_in c) c.workers (first scripts (suite_in c)) (events_of c.events) ≡ true

pub going-on : (c : CoreView) → c.stopped ≡ false → state_in c ≡ run_state c
going-on c h = ap (λ (t : Bool). stopped_if t (run_state c)) h ∙ as-is false (run_state c) (stopped-run (suite_in c) (events_of c.events) (first scripts (suite_in c)))

pub run-reached : (c : CoreView) → IsRun c → IsReached c.plan c.world (run_state c)
run-reached c run = record { workers = c.workers; events = events_of c.events; run = run; state = refl }

pub reached : (c : CoreView) → IsRun c → c.stopped ≡ false → IsReached c.plan c.world (state_in c)
reached c run h = subst (λ (s : RunState). IsReached c.plan c.world s) (sym (going-on c h)) (run-reached c run)

module _ (c : CoreView) where
  pub idle : IsRun c → (u : ℕ) → c.workers ≤ u → (state_in c).busy u ≡ None
  idle run = idle-run (suite_in c) c.workers (events_of c.events) (first scripts (suite_in c)) (λ u past. refl) run

  -- what was stopped refuses every event
  pub refuses-all : (e : Event) → c.stopped ≡ true → refusal_in c e ≡ Some Why.Stopped
  refuses-all (Code.Enter w n) h = first-is Why.Stopped (refuse c.stopped Why.Stopped) (tail-of (kinds scripts (suite_in c) c.workers (state_in c) (E.Enter w n)))
      (ap (λ (t : Bool). refuse t Why.Stopped) h)
  refuses-all (Code.Step w) h = first-is Why.Stopped (refuse c.stopped Why.Stopped) (tail-of (kinds scripts (suite_in c) c.workers (state_in c) (E.Step w))) (ap (λ (t : Bool). refuse t Why.Stopped) h)
  refuses-all (Code.Leave w) h = first-is Why.Stopped (refuse c.stopped Why.Stopped) (tail-of (kinds scripts (suite_in c) c.workers (state_in c) (E.Leave w)))
      (ap (λ (t : Bool). refuse t Why.Stopped) h)
  refuses-all (Code.Shut w n) h = first-is Why.Stopped (refuse c.stopped Why.Stopped) (tail-of (kinds scripts (suite_in c) c.workers (state_in c) (E.Shut w n)))
      (ap (λ (t : Bool). refuse t Why.Stopped) h)

  unstopped-by : (e : Event) → refusal_in c e ≡ None → (b : Bool) → c.stopped ≡ b → c.stopped ≡ false
  unstopped-by e h true t = let r = refuses-all e t in absurd cc
  unstopped-by e h false t = t

  pub unstopped : (e : Event) → refusal_in c e ≡ None → c.stopped ≡ false
  unstopped e h = unstopped-by e h c.stopped refl

  pub accepted : (e : Event) → refusal_in c e ≡ None → is_accepted scripts (suite_in c) c.workers (state_in c) (event_of e) ≡ true
  accepted e h = ap (λ (o : Option Refused). is_none o) h

  -- with an event more
  pub next : (e : Event) → c.stopped ≡ false → state_in (with_event c e) ≡ after scripts (suite_in c) (state_in c) (event_of e)
  next e h =
      going-on (with_event c e) h
      ∙ ap (after_all_of scripts (suite_in c) (first scripts (suite_in c))) (map-append c.events (e ∷ []))
      ∙ after_append scripts (suite_in c) (events_of c.events) (event_of e ∷ []) (first scripts (suite_in c))
      ∙ ap (λ (s : RunState). after scripts (suite_in c) s (event_of e)) (sym (going-on c h))

  pub goes-on : (e : Event) → IsRun c → refusal_in c e ≡ None → IsRun (with_event c e)
  goes-on e run h =
      let x = suite_in c in
      let last : is_run scripts x c.workers (run_state c) (event_of e ∷ []) ≡ true =
      subst (λ (s : RunState). (is_accepted scripts x c.workers s (event_of e) && true) ≡ true) (going-on c (unstopped e h)) (ap (λ (b : Bool). b && true) (accepted e h)) in
      ap (is_run scripts x c.workers (first scripts x)) (map-append c.events (e ∷ []))
      ∙ run_on scripts x c.workers (events_of c.events) (event_of e ∷ []) (first scripts x) run last

  pub reached-next : (e : Event) → IsRun c → refusal_in c e ≡ None → IsReached c.plan c.world (after scripts (suite_in c) (state_in c) (event_of e))
  reached-next e run h = subst (λ (s : RunState). IsReached c.plan c.world s) (next e (unstopped e h)) (reached (with_event c e) (goes-on e run h) (unstopped e h))
