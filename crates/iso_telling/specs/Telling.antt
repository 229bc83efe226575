-- What a run tells besides its report.
--
-- what a run tells besides: Of each text that is asked for that it was told, and of no other
-- (`nothing_yet`, `told_nothing`, `IsTold`, `IsSummarized`, `HasTold`); which text is the summary
-- of a suite as it is written (`IsSummary`), and that it was added (`AddsSummary`); of the suite of
-- inputs (`TellsOf`).
-- Also in: `Runs` of `iso_run`.
use Rattle.std.specs.Prelude.{◌≡◌, ℕ, List, [], Bool, true, false, Option, None, Some, ◌||◌, is_some, map}
use Rattle.iso_durations.specs.Durations.{durations_text}
use Rattle.iso_failures.specs.Failures.{failed_text}
use Rattle.iso_github.specs.Errors.{errors_text}
use Rattle.iso_junit.specs.Documents.{junit_text}
use Rattle.iso_junit.specs.Runs.{RunView}
use Rattle.iso_model.specs.declared.outcome.Outcome.{Outcome}
use Rattle.iso_places.specs.Located.{AreSites}
use Rattle.iso_places.specs.Sites.{all_sites}
use Rattle.iso_places.specs.declared.site.Site.{Site}
use Rattle.iso_plan.specs.Tree as T
use Rattle.iso_plan.specs.Tree.{Row}
use Rattle.iso_settings.specs.declared.settings.Settings.{Settings}
use Rattle.iso_summary.specs.Summaries.{summary_text}
use Rattle.iso_summary.specs.Views.{again_of}
use Rattle.iso_tap.specs.Sinks.{Account, Wrote}
use Rattle.iso_telling.specs.Excerpts.{excerpts}
use Rattle.iso_telling.specs.NodePlaces.{node_places}
use Rattle.iso_telling.specs.Pages.{IsPaged, WatchedView, page_of}
use Rattle.iso_telling.specs.ToldNodes.{told_nodes}
use Rattle.iso_telling.specs.ToldPlaces.{located_told, told}
use Rattle.iso_telling.specs.Written.{WrittenView, lent}
use Rattle.iso_telling.specs.declared.tells.DurationsText.{DurationsText}
use Rattle.iso_telling.specs.declared.tells.SummaryText.{SummaryText}
use Rattle.iso_telling.specs.declared.tells.Tells.{Tells}

-- a text of which nothing was told
abbrev pub nothing_yet : Account
nothing_yet = record { bytes = Some []; count = 0; failures = 0 }

-- the same, if it is asked for
abbrev pub told_nothing : (asked : Bool) → Option Account
told_nothing true = Some nothing_yet
told_nothing false = None

-- a text was told where it is asked for, and nothing where it isn't
abbrev pub IsTold : List ℕ → (old new : Option Account) → Type 0
IsTold text None new = new ≡ None
IsTold text (Some old) None = ⊥
IsTold text (Some old) (Some new) = Wrote old new text

-- A text is the summary of outcomes: of the nodes that are told of, each at the line that is told
-- of it, which its site gives, and with what mends it, where that is asked for.
abbrev pub summary_of : (texts : List (List ℕ)) → List Row → (ℕ → Outcome) → List Site
    → (names : List (List ℕ)) → SummaryText → List ℕ
summary_of texts tree outcome sites names asked =
    let nodes = told_nodes tree outcome asked.skipped in
    summary_text tree outcome (again_of asked.again) nodes
    (map (λ n. located_told names texts (told asked.explain tree sites outcome n)) nodes)

-- a text was added to a summary, which is asked for as before
abbrev pub AddsSummary : (text : List ℕ) → (old new : SummaryText) → Type 0
AddsSummary text old new = (new ≡ record old { text = new.text }) × Wrote old.text new.text text

-- a summary was told where one is asked for, and nothing where none is
abbrev pub IsSummarized : (SummaryText → List ℕ) → (old new : Option SummaryText) → Type 0
IsSummarized text_of None new = new ≡ None
IsSummarized text_of (Some old) None = ⊥
IsSummarized text_of (Some old) (Some new) = AddsSummary (text_of old) old new

-- the slowest were added to their text, as many as before
abbrev pub AddsDurations : List Row → (times : List (Option ℕ)) → (old new : DurationsText) → Type 0
AddsDurations tree times old new = (new ≡ record old { text = new.text })
    × Wrote old.text new.text (durations_text tree times old.most)

-- the slowest were told where they are asked for, and nothing where they aren't
abbrev pub IsTimed : List Row → (times : List (Option ℕ))
    → (old new : Option DurationsText) → Type 0
IsTimed tree times None new = new ≡ None
IsTimed tree times (Some old) None = ⊥
IsTimed tree times (Some old) (Some new) = AddsDurations tree times old new

-- whether it has to be known where nodes stand
abbrev pub wants_places : Tells → Bool
wants_places asked =
    is_some asked.summary || (is_some asked.junit || (is_some asked.html || is_some asked.github))

-- whether it has to be known how long bodies took
abbrev pub wants_times : Tells → Bool
wants_times asked = is_some asked.junit || (is_some asked.html || is_some asked.durations)

-- a run whose nodes stand at these sites and whose bodies took these times, as it is told in
-- JUnit's XML and on a page
abbrev pub run_told : (names : List (List ℕ)) → List Row → (ℕ → Outcome) → (times : List (Option ℕ))
    → List Site → RunView
run_told names tree outcome times sites =
    record {
      tree = tree;
      outcome = outcome;
      places = node_places names tree sites outcome;
      times = times;
    }

-- Of the outcomes of a tree's nodes, which stand at these sites and whose bodies took these times,
-- all was told that is asked for with places, and with what was watched of the run.
pub record HasToldPlaces (written : WrittenView) (tree : List Row) (settings : Settings)
    (outcome : ℕ → Outcome) (times : List (Option ℕ)) (watched : Option WatchedView)
    (sites : List Site) (old new : Tells) : Type 0 where
  pub names : new.names ≡ old.names
  pub failed : new.failed ≡ old.failed
  pub durations : new.durations ≡ old.durations
  pub summary : IsSummarized (summary_of written.texts tree outcome sites (lent old.names.now))
      old.summary new.summary
  pub junit : IsTold (junit_text (run_told (lent old.names.now) tree outcome times sites))
      old.junit new.junit
  pub html : IsPaged (page_of (run_told (lent old.names.now) tree outcome times sites) settings
      (excerpts written.texts tree sites outcome) watched) old.html new.html
  pub github : IsTold (errors_text tree outcome
      (node_places (lent old.names.now) tree sites outcome)) old.github new.github

-- All that is asked for was told of them. Where places are wanted, each node stands where the first
-- node of all scripts stands that has its path.
pub record HasTold (written : WrittenView) (tree : List Row) (settings : Settings)
    (outcome : ℕ → Outcome) (times : List (Option ℕ)) (watched : Option WatchedView)
    (old new : Tells) : Type 0 where
  pub failed : IsTold (failed_text tree outcome) old.failed new.failed
  pub durations : IsTimed tree times old.durations new.durations
  pub sites : List Site
  pub are : wants_places old ≡ true → AreSites (T.tree written.scripts)
      (all_sites written.places) tree sites
  pub placed : HasToldPlaces written tree settings outcome times watched sites
      (record old { failed = new.failed; durations = new.durations }) new
