-- The report of results is that of their suite.
use Rattle.std.proofs.Common.{◌≡◌, ℕ, List, Bool, true, Result, Ok, Err, MatchResult, OnOk, Option, is_some, refl, subst, sym, ap, ap₂, ◌∙◌}
use Rattle.iso_run.specs.Suites.{IsSuite, Suite, planned, texts}
use Rattle.iso_run.specs.declared.inputs.Inputs.{Inputs}
use Rattle.iso_lifecycle.specs.ResultViews.{ResultsView, outcome_in}
use Rattle.iso_lifecycle.specs.Subjects.{outcome_alone, started}
use Rattle.iso_plan.specs.Planned.{Planned}
use Rattle.iso_plan.specs.RowView.{tree_of}
use Rattle.iso_settings.specs.Worlds.{Start}
use Rattle.iso_tap.specs.Reports.{all_ok, report}
use Rattle.iso_tap.specs.Sinks.{Account, Wrote}
use Rattle.iso_run.specs.Replays.{IsPlayed}
use Rattle.iso_run.specs.Runs.{IsCutOff, IsUnwritten, Product, TellsOf, Writes, suite_report}
use Rattle.iso_run.specs.Watches.{TellsRun, WasWatchedOf}
use Rattle.iso_telling.specs.Pages.{WatchedView}
use Rattle.iso_telling.specs.Telling.{HasTold, wants_places}
use Rattle.iso_telling.specs.Written.{ArePlaced, WrittenView}
use Rattle.iso_telling.specs.declared.tells.Tells.{Tells}
use Rattle.iso_run.specs.declared.run_fault.RunFault.{RunFault}
use Rattle.iso_run.specs.declared.run_fault.RunFault.TheVariants.{Write}
use Rattle.iso_run.specs.declared.run_fault.RunFault.TheVariants as F
use Rattle.iso_run.specs.declared.report.Summary.{Summary}
use Rattle.iso_run.specs.declared.way.Way.{Way}

-- what tells why a product wasn't written whole, where the sink failed
pub cut-off : {A : Type 0} (ok_of : A → Bool) (product : Suite → Product) (inputs : Inputs) (way : Way) (suite : Suite)
    → IsSuite inputs suite → IsPlayed inputs way true → (old new : Account) (fault : RunFault)
    → IsCutOff (product suite).text old new fault → Writes ok_of product inputs way old new (Err fault)
cut-off ok_of product inputs way suite is played old new fault cut =
    let whole : IsCutOff (product suite).text old new (Write cut.written) = record { written = cut.written; is = refl; took = cut.took; within = cut.within; failed = cut.failed } in
    subst (λ (f : RunFault). Writes ok_of product inputs way old new (Err f)) (sym cut.is) (record { cause = played; leaves = (suite, is, whole) })

module _ (inputs : Inputs) (old new : Account) (suite : Suite) (plan : Planned) (v : ResultsView) (is : IsSuite inputs suite) (made : plan ≡ planned suite) (of : v.plan ≡ plan)
    (on : v.start ≡ suite.start) where
  report-is : report (tree_of plan) (outcome_in v) ≡ (suite_report suite).text
  report-is =
      ap₂ (λ (p : Planned) (s : Start). report (tree_of plan) (outcome_alone (tree_of p) (started s))) of on
      ∙ ap (λ (p : Planned). report (tree_of p) (outcome_alone (tree_of p) (started suite.start))) made

  ok-is : all_ok (tree_of plan) (outcome_in v) ≡ (suite_report suite).ok
  ok-is =
      ap₂ (λ (p : Planned) (s : Start). all_ok (tree_of plan) (outcome_alone (tree_of p) (started s))) of on
      ∙ ap (λ (p : Planned). all_ok (tree_of p) (outcome_alone (tree_of p) (started suite.start))) made

  cut : (way : Way) → IsPlayed inputs way true → (fault : RunFault) → IsCutOff (report (tree_of plan) (outcome_in v)) old new fault
      → Writes (λ (s : Summary). s.all_ok) suite_report inputs way old new (Err fault)
  cut way played fault h = cut-off (λ (s : Summary). s.all_ok) suite_report inputs way suite is played old new fault (subst (λ (text : List ℕ). IsCutOff text old new fault) report-is h)

  unreported : (way : Way) → IsPlayed inputs way true → (fault : RunFault) → IsUnwritten (report (tree_of plan) (outcome_in v)) old new fault
      → Writes (λ (s : Summary). s.all_ok) suite_report inputs way old new (Err fault)
  unreported way played (F.Settings fault) h = cut way played (F.Settings fault) h
  unreported way played (F.World fault) h = cut way played (F.World fault) h
  unreported way played (F.Script index fault) h = cut way played (F.Script index fault) h
  unreported way played (F.Plan fault) h = cut way played (F.Plan fault) h
  unreported way played (F.Schedule fault) h = cut way played (F.Schedule fault) h
  unreported way played (F.Refused index why) h = cut way played (F.Refused index why) h
  unreported way played F.Unfinished h = cut way played F.Unfinished h
  unreported way played F.Start h = cut way played F.Start h
  unreported way played F.Lost h = cut way played F.Lost h
  unreported way played F.Memory h = record { cause = tt; leaves = h }
  unreported way played (F.Write written) h = cut way played (F.Write written) h

  -- what is answered of the results of a suite is answered of a way that came to them
  pub reported : (way : Way) → IsPlayed inputs way true → (result : Result Summary RunFault)
      → MatchResult result (λ s. Wrote old new (report (tree_of plan) (outcome_in v)) × (s.all_ok ≡ all_ok (tree_of plan) (outcome_in v))) (IsUnwritten (report (tree_of plan) (outcome_in v)) old new)
      → Writes (λ (s : Summary). s.all_ok) suite_report inputs way old new result
  reported way played (Ok summary) h =
      record { cause = tt; leaves = (played, (suite, is, (subst (λ (text : List ℕ). Wrote old new text) report-is h.0, h.1 ∙ ok-is))) }
  reported way played (Err fault) h = unreported way played fault h

  -- what was told of the results of a suite was told of it
  told_of : (w : WrittenView) (times : List (Option ℕ)) (watched : Option WatchedView) (before after : Tells) → w.texts ≡ texts inputs.scripts.now
      → (wants_places before ≡ true → ArePlaced w.texts w.scripts w.places)
      → HasTold w (tree_of plan) plan.settings (outcome_in v) times watched before after → TellsOf inputs times watched before after
  told_of w times watched before after same placed h =
      let started_so = subst (λ (s : Start). HasTold w (tree_of plan) plan.settings (outcome_alone (tree_of v.plan) (started s)) times watched before after) on h in
      let planned_so = subst (λ (p : Planned). HasTold w (tree_of plan) plan.settings (outcome_alone (tree_of p) (started suite.start)) times watched before after) of started_so in
      let all = subst (λ (p : Planned). HasTold w (tree_of p) p.settings (outcome_alone (tree_of p) (started suite.start)) times watched before after) made planned_so in
      (suite, is, record { written = w; texts_are = same; placed = placed; told = all })

  pub told : {A F : Type 0} (w : WrittenView) (times : List (Option ℕ)) (watched : Option WatchedView) (before after : Tells) → w.texts ≡ texts inputs.scripts.now
      → (wants_places before ≡ true → ArePlaced w.texts w.scripts w.places)
      → (result : Result A F) → OnOk result (HasTold w (tree_of plan) plan.settings (outcome_in v) times watched before after) → OnOk result (TellsOf inputs times watched before after)
  told w times watched before after same placed (Ok a) h = told_of w times watched before after same placed h
  told w times watched before after same placed (Err e) h = tt

  -- the same of a run that was watched, with times that may be any
  pub told-run : {A F : Type 0} (way : Way) (w : WrittenView) (times : List (Option ℕ)) (watched : Option WatchedView) (before after : Tells)
      → WasWatchedOf inputs way (is_some before.html) watched → w.texts ≡ texts inputs.scripts.now
      → (wants_places before ≡ true → ArePlaced w.texts w.scripts w.places)
      → (result : Result A F) → OnOk result (HasTold w (tree_of plan) plan.settings (outcome_in v) times watched before after)
      → OnOk result (TellsRun inputs way before after)
  told-run way w times watched before after seen same placed (Ok a) h = (times, watched, seen, told_of w times watched before after same placed h)
  told-run way w times watched before after seen same placed (Err e) h = tt
