-- Why a replay ends early, by what its parts answer, and how far a replay went that no event
-- stopped.
use Rattle.std.proofs.Common.{◌≡◌, ℕ, List, Bool, Some, Err, Ok, refl, subst, ap, ◌∙◌}
use Rattle.std.specs.Borrow.{Bor}
use Rattle.iso_core.specs.Cores.{CoreView, is_complete}
use Rattle.iso_core.specs.EventRuns.{AreAccepted, EndedBy, Ran, RefusedAt, core_after}
use Rattle.iso_standing.specs.CodeEvents.{refused_of}
use Rattle.iso_standing.specs.declared.refused.CoreFault.{CoreFault}
use Rattle.iso_standing.specs.declared.refused.CoreFault.TheVariants as C
use Rattle.iso_plan.specs.Planned.{Planned}
use Rattle.iso_run.specs.Suites.{suite_of}
use Rattle.iso_run.specs.declared.inputs.Inputs.{Inputs}
use Rattle.iso_run.specs.declared.inputs.Suite.{Suite as ReadSuite}
use Rattle.iso_run.specs.declared.report.Summary.{Summary}
use Rattle.iso_run.specs.declared.way.Way.TheVariants.{BySchedule}
use Rattle.iso_lifecycle.specs.ResultViews.{ResultsView}
use Rattle.iso_run.specs.Replays.{IsPlayed, events_fault, schedule_fault}
use Rattle.iso_run.specs.Runs.{IsRead, Writes, suite_report}
use Rattle.iso_schedule.specs.Schedules.{AreRead, IfAnswered, ScheduleError}
use Rattle.iso_standing.specs.declared.event.Event.{Event}
use Rattle.iso_model.specs.declared.input_error.InputError.TheVariants as S
use Rattle.iso_tap.specs.Sinks.{Account}

pub unread : (inputs : Inputs) (schedule : Bor (List ℕ)) (a : Account) (suite : ReadSuite) (error : ScheduleError) (keeps : Bool)
    → IsRead inputs keeps suite → IfAnswered (AreRead schedule.now) (Err error)
    → Writes (λ (s : Summary). s.all_ok) suite_report inputs (BySchedule schedule) a a (Err (schedule_fault error))
unread inputs schedule a suite (S.Fault fault) keeps is wrong = record { cause = (suite_of inputs suite, is.is_suite, wrong); leaves = refl }
unread inputs schedule a suite S.OutOfMemory keeps is wrong = record { cause = tt; leaves = refl }

module _ (inputs : Inputs) (schedule : Bor (List ℕ)) (suite : ReadSuite) (events : List Event) (keeps : Bool) (is : IsRead inputs keeps suite) (read : AreRead schedule.now (Ok events)) where
  pub stopped : (a : Account) (index : ℕ) (fault : CoreFault) → EndedBy fault suite.plan suite.world suite.settings.worker_count events index
      → Writes (λ (s : Summary). s.all_ok) suite_report inputs (BySchedule schedule) a a (Err (events_fault (record { index = index; fault = fault })))
  stopped a index (C.Refused why) by =
      let refused = subst (λ (p : Planned). RefusedAt p suite.world suite.settings.worker_count events index (Some (refused_of why))) is.planned_as by in
      record { cause = (suite_of inputs suite, is.is_suite, (events, read, refused)); leaves = refl }
  stopped a index C.OutOfMemory by = record { cause = tt; leaves = refl }

  pub played : (c : CoreView) (whole : Bool) → Ran suite.plan suite.world suite.settings.worker_count events c → is_complete c ≡ whole → IsPlayed inputs (BySchedule schedule) whole
  played c whole ran ends =
      let accepted = subst (λ (p : Planned). AreAccepted p suite.world suite.settings.worker_count events) is.planned_as ran.accepted in
      let at_end = subst (λ (d : CoreView). is_complete d ≡ whole) ran.core ends in
      (suite_of inputs suite, is.is_suite, (events, read, (accepted, subst (λ (p : Planned). is_complete (core_after p suite.world suite.settings.worker_count events) ≡ whole) is.planned_as at_end)))

module _ (suite : ReadSuite) (events : List Event) (c : CoreView) (v : ResultsView) (ran : Ran suite.plan suite.world suite.settings.worker_count events c) where
  pub results-plan : v.plan ≡ c.plan → v.plan ≡ suite.plan
  results-plan same = same ∙ ap (λ (d : CoreView). d.plan) ran.core

  pub results-start : v.start ≡ c.world → v.start ≡ suite.world
  results-start same = same ∙ ap (λ (d : CoreView). d.world) ran.core
