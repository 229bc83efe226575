-- What a run, a replay and a printed plan write, whole, or why not.
--
-- results of a suite: Of each node the outcome of its own class chain run alone on the start
-- (`suite_outcome`, `outcome_alone`); what is written of them: the report, and whether all its
-- top-level points are ok (`suite_report`), or the plan (`suite_plan`), with reasons (`suite_why`),
-- or its keys (`suite_conflicts`).
--
-- what a run answers: The report of a suite, or its plan, written whole (`IsWritten`); or why not,
-- and what was written until then (`Writes`, `IsCutOff`).
use Rattle.std.specs.Borrow.{Bor}
use Rattle.std.specs.Int.{IsInRange}
use Rattle.std.specs.Prelude.{◌≡◌, ℕ, ◌<◌, List, Bool, true, cond, length, map, take, Option, Result, IfErr}
use Rattle.iso_run.specs.ExitStatuses.{Leaves, end_of, run_end}
use Rattle.iso_run.specs.Replays.{Cause, IsPlayed}
use Rattle.iso_run.specs.Suites.{IsSuite, OfSuite, Suite, planned, suite_of, texts}
use Rattle.iso_run.specs.declared.run_fault.RunFault.{RunFault}
use Rattle.iso_run.specs.declared.run_fault.RunFault.TheVariants.{Memory, Write}
use Rattle.iso_run.specs.declared.inputs.Inputs.{Inputs}
use Rattle.iso_run.specs.declared.inputs.Suite.{Suite as ReadSuite}
use Rattle.iso_run.specs.declared.way.Way.{Way}
use Rattle.iso_lifecycle.specs.Subjects.{outcome_alone, started}
use Rattle.iso_model.specs.ScriptView.{script_of}
use Rattle.iso_model.specs.Scripts.{Script}
use Rattle.iso_model.specs.declared.outcome.Outcome.{Outcome}
use Rattle.iso_conflicts.specs.ConflictsText.{conflicts_text}
use Rattle.iso_placed_plan.specs.PlacedPlan.{placed_plan_text, placed_tests_text}
use Rattle.iso_places.specs.Located.{AreSites}
use Rattle.iso_places.specs.Sites.{all_sites, places_in}
use Rattle.iso_places.specs.declared.site.Site.{Site}
use Rattle.iso_plan.specs.Tree.{Row, tree}
use Rattle.iso_script.specs.declared.place.NodePlace.{NodePlace}
use Rattle.iso_settings.specs.declared.settings.Settings.{Settings}
use Rattle.iso_tap.specs.PlanText.{plan_text, tests_text}
use Rattle.iso_tap.specs.Reports.{all_ok, report}
use Rattle.iso_tap.specs.Sinks.{Account, HasFailed, Took, Wrote}
use Rattle.iso_why.specs.PlanWhy.{plan_why, tests_why}
use Rattle.iso_telling.specs.Pages.{WatchedView}
use Rattle.iso_telling.specs.Telling.{HasTold, wants_places}
use Rattle.iso_telling.specs.Written.{ArePlaced, WrittenView}
use Rattle.iso_telling.specs.declared.tells.Tells.{Tells}

-- the outcome of each node of a suite, by its number: that of the node run alone on what the world
-- starts with
abbrev pub suite_outcome : Suite → ℕ → Outcome
suite_outcome suite = outcome_alone suite.nodes (started suite.start)

-- what is written of a suite: a text, and whether it tells that all is ok
pub record Product : Type 0 where
  pub text : List ℕ
  pub ok : Bool

-- the report, and whether all top-level points are ok
abbrev pub suite_report : Suite → Product
suite_report suite = record {
  text = report suite.nodes (suite_outcome suite);
  ok = all_ok suite.nodes (suite_outcome suite);
}

-- the printed plan, with the number of workers that the settings give
abbrev pub suite_plan : Suite → Product
suite_plan suite =
    record { text = plan_text suite.nodes suite.settings suite.settings.worker_count; ok = true }

-- the lines of tests in it, and no other
abbrev pub suite_tests : Suite → Product
suite_tests suite = record { text = tests_text suite.nodes suite.settings; ok = true }

-- The way came to its end, and the product of the suite that the inputs are was written, whole.
abbrev pub IsWritten : (Suite → Product) → Inputs → Way → (old new : Account) → (ok : Bool) → Type 0
IsWritten product inputs way old new ok = IsPlayed inputs way true
    × OfSuite inputs (λ suite. Wrote old new (product suite).text × (ok ≡ (product suite).ok))

-- The fault is that the sink failed while a text was written: it took the first bytes, as many as
-- the fault says and not all.
pub record IsCutOff (text : List ℕ) (old new : Account) (fault : RunFault) : Type 0 where
  pub written : ℕ
  pub is : fault ≡ Write written
  pub took : Took old new (take written text)
  pub within : written < length text
  pub failed : HasFailed old.failures new.failures

-- The fault is that memory ran out before the sink was asked anything, or that it is cut off.
abbrev pub IsUnwritten : List ℕ → (old new : Account) → RunFault → Type 0
IsUnwritten text old new Memory = new ≡ old
IsUnwritten text old new fault = IsCutOff text old new fault

-- A product of inputs was written whole; or why not, and what was written of it.
pub record Writes {A : Type 0} (ok_of : A → Bool) (product : Suite → Product) (inputs : Inputs)
    (way : Way) (old new : Account) (result : Result A RunFault) : Type 0 where
  pub cause : IfErr result (Cause inputs way)
  pub leaves : Leaves (IsWritten product inputs way old new) ⊥
      (OfSuite inputs (λ suite. IfErr result (IsCutOff (product suite).text old new))) old new
      (end_of ok_of run_end result)

-- The inputs are the suite that was read, with its plan, with 1 to 64 workers, and with the places
-- of its scripts' nodes, where these are kept.
pub record IsRead (inputs : Inputs) (keeps : Bool) (suite : ReadSuite) : Type 0 where
  pub is_suite : IsSuite inputs (suite_of inputs suite)
  pub planned_as : suite.plan ≡ planned (suite_of inputs suite)
  pub manned : IsInRange 1 64 suite.settings.worker_count
  pub placed : keeps ≡ true → ArePlaced (texts inputs.scripts.now)
      (map script_of suite.scripts.items) (places_in suite.places.items)

-- a suite that was read, as it is written in these bytes
abbrev pub as_written : ReadSuite → List (Bor (List ℕ)) → WrittenView
as_written suite scripts = record {
  scripts = map script_of suite.scripts.items;
  places = places_in suite.places.items;
  texts = texts scripts;
}

-- Of a suite all that is asked for was told besides, with these times of its nodes, and with what
-- was watched of a run. What is told with places is told with those that stand in the bytes of its
-- scripts.
pub record IsToldOf (inputs : Inputs) (suite : Suite) (times : List (Option ℕ))
    (watched : Option WatchedView) (old new : Tells) : Type 0 where
  pub written : WrittenView
  pub texts_are : written.texts ≡ texts inputs.scripts.now
  pub placed : wants_places old ≡ true → ArePlaced written.texts written.scripts written.places
  pub told : HasTold written suite.nodes suite.settings (suite_outcome suite) times watched old new

abbrev pub TellsOf : Inputs → (times : List (Option ℕ)) → (watched : Option WatchedView)
    → (old new : Tells) → Type 0
TellsOf inputs times watched old new =
    OfSuite inputs (λ suite. IsToldOf inputs suite times watched old new)

-- Sites are those of the nodes of the suite that inputs are, by what stands in the bytes of its
-- scripts.
pub record AreSitesOf (inputs : Inputs) (suite : Suite) (sites : List Site) : Type 0 where
  pub scripts : List Script
  pub places : List (List NodePlace)
  pub placed : ArePlaced (texts inputs.scripts.now) scripts places
  pub are : AreSites (tree scripts) (all_sites places) suite.nodes sites

-- the printed plan with the sites of its nodes, or the lines of tests in it alone
abbrev pub places_text : (tests : Bool) → (names : List (List ℕ)) → List Site → List Row → Settings
    → (workers : ℕ) → List ℕ
places_text tests names sites nodes settings workers =
    cond tests (placed_tests_text nodes settings sites names)
    (placed_plan_text nodes settings workers sites names)

-- the same with why modes and locks are so
abbrev pub why_text : (tests : Bool) → (names : List (List ℕ)) → List Site → List Row → Settings
    → (workers : ℕ) → List ℕ
why_text tests names sites nodes settings workers =
    cond tests (tests_why nodes settings sites names) (plan_why nodes settings workers sites names)

abbrev pub suite_why : (tests : Bool) → (names : List (List ℕ)) → List Site → Suite → Product
suite_why tests names sites suite =
    record {
      text =
          why_text tests names sites suite.nodes suite.settings suite.settings.worker_count;
      ok =
          true;
    }

-- the keys of the plan, with who takes them
abbrev pub suite_conflicts : Suite → Product
suite_conflicts suite =
    record {
      text =
          conflicts_text suite.nodes suite.settings suite.settings.worker_count;
      ok = true;
    }

abbrev pub suite_places : (tests : Bool) → (names : List (List ℕ)) → List Site → Suite → Product
suite_places tests names sites suite =
    record {
      text = places_text tests names sites suite.nodes suite.settings
          suite.settings.worker_count;
      ok = true;
    }
