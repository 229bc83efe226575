-- What a change of scripts and a world can alter.
--
-- what a change can alter is told: Two suites, that of the request's files and that of files of the
-- same names below a folder (`below`, `AreBelow`), as they stand in the bytes of their scripts
-- (`IsSideOf`); the fates, the differences and what is gone are those of their nodes
-- (`IsAlteration`, `IsChangeOf`, `both`), and a property that is told starts with another value
-- (`StartsOtherwise`); all of it, or the paths alone (`change_text`), was written, whole
-- (`IsToldFor`). The same of two states that were read (`IsStateOf`, `IsReady`, `IsComparedIn`).
-- Also in: `Commands`.
use Rattle.std.specs.Prelude.{◌≡◌, ℕ, List, [], ◌++◌, Bool, Option, None, IfSome, codes, cond, length, map}
use Rattle.std.specs.Option.{option_copied, option_map}
use Rattle.iso_affected.specs.Counting.{counts}
use Rattle.iso_affected.specs.Fates.{AreFates, Suites, gone, suites}
use Rattle.iso_affected.specs.PropertyStarts.{property_of}
use Rattle.iso_affected.specs.Told.{AreDifferences}
use Rattle.iso_affected.specs.declared.affected.Fate.{Fate}
use Rattle.iso_affected.specs.declared.difference.Difference.{Difference}
use Rattle.iso_affected_text.specs.Affected.{affected_rows}
use Rattle.iso_affected_text.specs.Changes.{ChangeView, SideView}
use Rattle.iso_affected_text.specs.Texts.{affected_text, paths_text}
use Rattle.iso_arguments.specs.declared.request.InputFiles.{InputFiles}
use Rattle.iso_plan.specs.RowView.{tree_of}
use Rattle.iso_plan.specs.KeptNodes.{texts_of}
use Rattle.iso_run.specs.Runs.{AreSitesOf}
use Rattle.iso_run.specs.Suites.{IsSuite, Suite, planned, texts}
use Rattle.iso_run.specs.declared.inputs.Inputs.{Inputs}
use Rattle.iso_settings.specs.Worlds.{Start}

-- a name below a folder
abbrev pub below : (folder name : List ℕ) → List ℕ
below folder name = folder ++ codes "/" ++ name

-- These are the files of the same names below a folder, and nothing else is asked for.
pub record AreBelow (folder : List ℕ) (files older : InputFiles) : Type 0 where
  pub scripts : texts_of older.scripts.items ≡ map (below folder) (texts_of files.scripts.items)
  pub world : option_copied older.world ≡ option_map (below folder) (option_copied files.world)
  pub only : older.only.items ≡ []
  pub patterns : older.patterns.items ≡ []
  pub only_from : older.only_from ≡ None
  pub shard : older.shard ≡ None

-- These are the fates of the new nodes, what differs of those that are changed, and the old nodes
-- that are gone.
pub record IsAlteration (s : Suites) (made : List Fate) (apart : List (Option Difference))
    (lost : List ℕ) : Type 0 where
  pub each : length made ≡ length s.new.rows
  pub fates : AreFates s made
  pub told_each : length apart ≡ length s.new.rows
  pub told : AreDifferences s made apart
  pub gone : lost ≡ gone (tree_of s.old) (tree_of s.new)

-- a property starts with another value
abbrev pub StartsOtherwise : (before after : Start) → (name : List ℕ) → Type 0
StartsOtherwise before after name = property_of before name ≡ property_of after name → ⊥

-- A side is the suite that inputs are, as it stands in the bytes of its scripts.
pub record IsSideOf (inputs : Inputs) (suite : Suite) (side : SideView) : Type 0 where
  pub is_suite : IsSuite inputs suite
  pub tree : side.tree ≡ suite.nodes
  pub texts : side.texts ≡ texts inputs.scripts.now
  pub sites : AreSitesOf inputs suite side.sites

-- two suites, each on the values that its world says
abbrev pub both : (was now : Suite) → Suites
both was now = suites (planned was) was.start (planned now) now.start

-- what is told of a change, or the paths of changed and new nodes alone, with the number of files
-- that weren't in the folder
abbrev pub change_text : (paths : Bool) → ChangeView → (folder : List ℕ) → (missing : ℕ) → List ℕ
change_text paths c folder missing =
    cond paths (paths_text (affected_rows c))
    (affected_text (affected_rows c) (record {
      counts = counts c.old.tree c.new.tree c.fates c.gone;
      folder = folder;
      missing = missing;
    }))

-- The change is that of one suite to another: its fates, its differences and what is gone are those
-- of their nodes. A property that is told starts with another value.
pub record IsChangeOf (was now : Suite) (change : ChangeView) : Type 0 where
  pub altered : IsAlteration (both was now) change.fates change.told change.gone
  pub property : IfSome change.property (StartsOtherwise was.start now.start)
