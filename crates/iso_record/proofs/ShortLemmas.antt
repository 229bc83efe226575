-- The numbers of events that are accepted.
use Rattle.std.proofs.Common.{◌≡◌, ℕ, ◌≤◌, ◌^◌, List, [], ◌∷◌, true, leb, arith}
use Rattle.std.specs.List.{AllByRecursion}
use Rattle.iso_isolation.proofs.Accepted.{enter_passes, in_plan, leave_passes, not_refused, shut_passes, step_passes}
use Rattle.iso_isolation.specs.Events.{after}
use Rattle.iso_isolation.specs.Refusals as Why
use Rattle.iso_isolation.specs.Runs.{is_accepted, is_run}
use Rattle.iso_isolation.specs.Suites.{Suite}
use Rattle.iso_model.specs.declared.resource.Resource.{Resource}
use Rattle.iso_record.specs.Texts.{IsShort}
use Rattle.iso_standing.specs.CodeEvents.{event_of, events_of}
use Rattle.iso_standing.specs.declared.event.Event.{Event}
use Rattle.iso_standing.specs.declared.event.Event.TheVariants as Code
use Rattle.iso_suites.proofs.StateRuns.{both-true}
use Rattle.iso_suites.specs.ScriptLanguage.{Head, scripts}
use Rattle.iso_suites.specs.SuiteStates.{RunState}

module _ (x : Suite Head (List ℕ) Resource) (workers : ℕ) (few : workers ≤ 10 ^ 9) (small : x.nodes ≤ 10 ^ 9) where
  short_event : (s : RunState) (e : Event) → is_accepted scripts x workers s (event_of e) ≡ true → IsShort e
  short_event s (Code.Enter w n) ok =
      let t = enter_passes scripts x workers s w n ok in (
        omega (arith, in_plan workers w (not_refused (leb workers w) Why.NoWorker t.worker)),
        omega (arith, in_plan x.nodes n (not_refused (leb x.nodes n) Why.NoNode t.node)),
      )
  short_event s (Code.Step w) ok =
      let t = step_passes scripts x workers s w ok in
      omega (arith, in_plan workers w (not_refused (leb workers w) Why.NoWorker t.worker))
  short_event s (Code.Leave w) ok =
      let t = leave_passes scripts x workers s w ok in
      omega (arith, in_plan workers w (not_refused (leb workers w) Why.NoWorker t.worker))
  short_event s (Code.Shut w n) ok =
      let t = shut_passes scripts x workers s w n ok in (
        omega (arith, in_plan workers w (not_refused (leb workers w) Why.NoWorker t.worker)),
        omega (arith, in_plan x.nodes n (not_refused (leb x.nodes n) Why.NoNode t.node)),
      )

  pub short_run : (s : RunState) (es : List Event) → is_run scripts x workers s (events_of es) ≡ true → AllByRecursion IsShort es
  short_run s [] run = tt
  short_run s (e ∷ es) run =
      let p = both-true (is_accepted scripts x workers s (event_of e)) (is_run scripts x workers (after scripts x s (event_of e)) (events_of es)) run in
      (short_event s e p.0, short_run (after scripts x s (event_of e)) es p.1)
