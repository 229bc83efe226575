-- What a command does for what its words ask, and how it ends.
--
-- how a command ends: What the program did for what its words ask (`Did`, `Answered`), of inputs
-- that were read for its files, with the paths and the number of processors that they ask for
-- (`IsWrittenFor`), and what it left of its output, by its exit status (`Ended`); the report of
-- just this script (`RanOn`).
use Rattle.std.specs.Prelude.{◌≡◌, ⊤, ℕ, ◌+◌, List, [], ◌∷◌, length, map, take, Bool, true, false, cond, Option, None, Some, IfOk, IfSome, Result, Ok, Vec, is_some, option_map, codes, string_bytes, not, ◌==◌}
use Rattle.std.specs.Option.{option_copied}
use Rattle.std.specs.Borrow.{Bor}
use Rattle.std.specs.Global.{Global}
use Rattle.iso_arguments.specs.RequestBounds.{IsCount, IsPlainRun, NamesNothing}
use Rattle.iso_arguments.specs.declared.processors.Processors.{Processors}
use Rattle.iso_arguments.specs.declared.processors.Processors.TheVariants.{Count, Auto}
use Rattle.iso_arguments.specs.declared.request.Extras.{Extras}
use Rattle.iso_arguments.specs.declared.request.InputFiles.{InputFiles}
use Rattle.iso_arguments.specs.declared.request.Request.{Request}
use Rattle.iso_arguments.specs.declared.request.Request.TheVariants.{Run, Plan, Conflicts, Replay, Check, Affected, Settings, Show}
use Rattle.iso_arguments.specs.declared.request.Summarized.{Summarized}
use Rattle.iso_arguments.specs.declared.request.Summarized.TheVariants.{Failed, All}
use Rattle.iso_arguments.specs.declared.shard.Shard as A
use Rattle.iso_explain_settings.specs.Listing.{listing_text}
use Rattle.iso_model.specs.declared.limits.TheConstants.{FILE_BYTES}
use Rattle.iso_html.specs.declared.again.Commands as P
use Rattle.iso_affected.specs.Fates.{suites}
use Rattle.iso_affected_text.specs.Changes.{ChangeView}
use Rattle.iso_places.specs.LineStarts.{line_starts}
use Rattle.iso_plan.specs.RowView.{tree_of}
use Rattle.iso_plan.specs.TopClasses.{all_paths}
use Rattle.iso_run.specs.Alterations.{AreBelow, IsAlteration, IsChangeOf, IsSideOf, StartsOtherwise, change_text}
use Rattle.iso_run.specs.declared.affected.Asked.{Asked}
use Rattle.iso_run.specs.declared.state.State.{State}
use Rattle.iso_run.specs.ExitStatuses.{End, NamesFile, Whole, Refuses, Leaves, exit_status, run_end}
use Rattle.iso_run.specs.Replays.{Cause}
use Rattle.iso_places.specs.declared.site.Site.{Site}
use Rattle.iso_plan.specs.KeptNodes.{texts_of}
use Rattle.iso_run.specs.Runs.{AreSitesOf, IsRead, IsWritten, Product, suite_conflicts, suite_places, suite_plan, suite_report, suite_tests, suite_why}
use Rattle.iso_run.specs.Suites.{OfSuite, Suite, document, settings_from, suite_of, texts}
use Rattle.iso_run.specs.declared.command.Printed.{Printed}
use Rattle.iso_run.specs.declared.command_fault.CommandFault.{CommandFault}
use Rattle.iso_run.specs.declared.run_fault.RunFault.{RunFault}
use Rattle.iso_run.specs.declared.files.FileReads.{FileReads}
use Rattle.iso_run.specs.declared.files.InputBytes.{InputBytes}
use Rattle.iso_run.specs.declared.inputs.Inputs.{Inputs}
use Rattle.iso_run.specs.declared.way.Way.{Way}
use Rattle.iso_run.specs.declared.way.Way.TheVariants.{Serial, ByWorkers, BySchedule}
use Rattle.iso_selection.specs.declared.shard.Shard.{Shard}
use Rattle.iso_settings.specs.Leaves.{leaves}
use Rattle.iso_settings.specs.declared.settings.Settings as S
use Rattle.iso_summary.specs.declared.again.Again.{Again}
use Rattle.iso_tap.specs.Sinks.{Account, HasFailed, Wrote}
use Rattle.toml.specs.Data.{Members}

-- Bytes that were read for these files: none for settings or a world that isn't named; for each
-- script that is named one text, and where none is, what the input has left, if that is known, up
-- to one byte past the limit; and a list of paths, where one is named, which for `-` is all that
-- the input has left. What a named file holds isn't known.
pub record AreOf (files : InputFiles) (input : Option (List ℕ)) (settings world : List ℕ)
    (scripts : List (List ℕ)) (listed : Option (List ℕ)) : Type 0 where
  pub settings_named : files.settings ≡ None → settings ≡ []
  pub world_named : files.world ≡ None → world ≡ []
  pub scripts_named : files.scripts.items ≡ []
      → IfSome input (λ bytes. scripts ≡ take (FILE_BYTES + 1) bytes ∷ [])
  pub each : (files.scripts.items ≡ [] → ⊥) → length scripts ≡ length files.scripts.items
  pub list_named : is_some listed ≡ is_some files.only_from
  pub list_piped : option_copied files.only_from ≡ Some (codes "-") → (files.scripts.items ≡ [] → ⊥)
      → IfSome input (λ bytes. listed ≡ Some bytes)

-- the number of processors that are counted with: one without a word, as many as it says, or those
-- of the machine, however many these are
abbrev pub IsCountedAs : Option Processors → ℕ → Type 0
IsCountedAs None n = n ≡ 1
IsCountedAs (Some (Count asked)) n = n ≡ asked
IsCountedAs (Some Auto) n = IsCount n

abbrev pub WereRead : InputFiles → Option (List ℕ) → InputBytes → Type 0
WereRead files input bytes = AreOf files input bytes.settings.items bytes.world.items
    (map (λ v. v.items) bytes.scripts.items) (option_map (λ v. v.items) bytes.listed)
    × IsCountedAs files.processors bytes.processors

-- what was read of one script, where this is the input, if that is known
abbrev pub IsOneRead : Option (List ℕ) → List (Result (Vec ℕ Global) CommandFault) → Type 0
IsOneRead input reads = (read : Result (Vec ℕ Global) CommandFault) × (reads ≡ read ∷ [])
    × IfSome input (λ bytes. IfOk read (λ v. v.items ≡ take (FILE_BYTES + 1) bytes))

-- These are the same of each file that was read, for these files.
pub record AreReads (files : InputFiles) (input : Option (List ℕ))
    (reads : FileReads) : Type 0 where
  pub settings_named : files.settings ≡ None → IfOk reads.settings (λ v. v.items ≡ [])
  pub world_named : files.world ≡ None → IfOk reads.world (λ v. v.items ≡ [])
  pub scripts_named : files.scripts.items ≡ [] → IsOneRead input reads.scripts.items
  pub each : (files.scripts.items ≡ [] → ⊥) → length reads.scripts.items
      ≡ length files.scripts.items
  pub list_named : IfOk reads.listed (λ listed. is_some listed ≡ is_some files.only_from)
  pub list_piped : option_copied files.only_from ≡ Some (codes "-") → (files.scripts.items ≡ [] → ⊥)
      → IfSome input (λ bytes. IfOk reads.listed
      (λ listed. option_map (λ v. v.items) listed ≡ Some bytes))
  pub counted : IsCountedAs files.processors reads.processors

-- the shard as the words have it
abbrev pub shard_asked : Shard → A.Shard
shard_asked shard = record { number = shard.index; of = shard.count }

-- These are the inputs that were read for these files, with the paths and the processors that are
-- asked for.
pub record AreFor (files : InputFiles) (input : Option (List ℕ)) (inputs : Inputs) : Type 0 where
  pub are_of : AreOf files input inputs.settings.now inputs.world.now (texts inputs.scripts.now)
      (option_copied inputs.listed)
  pub only : inputs.only.now ≡ files.only.items
  pub patterns : inputs.patterns.now ≡ files.patterns.items
  pub shard : option_map shard_asked inputs.shard ≡ files.shard
  pub processors : IsCountedAs files.processors inputs.processors

abbrev pub IsWrittenFor : (Suite → Product) → InputFiles → Option (List ℕ) → Way
    → (old new : Account) → (ok : Bool) → Type 0
IsWrittenFor product files input way old new ok = (inputs : Inputs) × AreFor files input inputs
    × IsWritten product inputs way old new ok

-- the way of a run, which is asked for with `--serial` or without
abbrev pub way_of : (serial : Bool) → Way
way_of serial = cond serial Serial ByWorkers

-- what is printed of a plan: all of it, or its tests alone; without the sites of its nodes, or with
-- them; with why its modes and locks are so
abbrev pub plan_of : Printed → (names : List (List ℕ)) → List Site → Suite → Product
plan_of printed names sites =
    cond printed.why (suite_why printed.tests names sites)
    (cond printed.places (suite_places printed.tests names sites)
    (cond printed.tests suite_tests suite_plan))

-- where sites are asked for, they are those of the suite that inputs are; else there are none
abbrev pub ArePlaces : (places : Bool) → Inputs → List Site → Type 0
ArePlaces true inputs sites = OfSuite inputs (λ suite. AreSitesOf inputs suite sites)
ArePlaces false inputs sites = sites ≡ []

-- a plan was printed, whole
abbrev pub IsPrintedFor : Printed → InputFiles → Option (List ℕ) → (old new : Account)
    → (ok : Bool) → Type 0
IsPrintedFor printed files input old new ok = (sites : List Site)
    × ((inputs : Inputs) × AreFor files input inputs × ArePlaces printed.places inputs sites
    × IsWritten (plan_of printed (texts_of files.scripts.items) sites) inputs Serial old new ok)

-- the inputs for these files are a suite
abbrev pub IsAcceptedFor : InputFiles → Option (List ℕ) → Type 0
IsAcceptedFor files input = (inputs : Inputs) × AreFor files input inputs
    × OfSuite inputs (λ suite. ⊤)

-- What settings come to was written, whole: those that were read of a file of this name, by the
-- number of processors that are counted with.
pub record IsListedFor (name : Option (Bor (List ℕ))) (asked : Option Processors)
    (old new : Account) : Type 0 where
  pub bytes : List ℕ
  pub named : name ≡ None → bytes ≡ []
  pub processors : ℕ
  pub counted : IsCountedAs asked processors
  pub settings : S.Settings
  pub read : settings_from bytes processors ≡ Ok settings
  pub members : Members
  pub document : document bytes ≡ Some members
  pub wrote : Wrote old new (listing_text (leaves members) settings processors)

-- A state that was read of inputs: their suite, with the bytes of its scripts, and the places of
-- its nodes in these.
pub record IsStateOf (inputs : Inputs) (state : State) : Type 0 where
  pub suite : IsRead inputs true state.suite
  pub texts : map (λ v. v.items) state.bytes.scripts.items ≡ texts inputs.scripts.now
  pub sites : AreSitesOf inputs (suite_of inputs state.suite) state.sites

-- The paths of a state are those of its nodes, and its tables are those of the lines of its
-- scripts.
pub record IsReady (state : State) : Type 0 where
  pub paths : state.paths.items ≡ all_paths (tree_of state.suite.plan)
  pub tables : state.tables.items ≡ map line_starts (map (λ v. v.items) state.bytes.scripts.items)

-- What a change of one state to another can alter was told, whole, or the paths alone.
pub record IsComparedIn (asked : Asked) (was now : State) (scripts : List (Bor (List ℕ)))
    (missing : ℕ) (old new : Account) : Type 0 where
  pub change : ChangeView
  pub names : change.names ≡ texts_of scripts
  pub old_tree : change.old.tree ≡ tree_of was.suite.plan
  pub old_sites : change.old.sites ≡ was.sites
  pub old_texts : change.old.texts ≡ map (λ v. v.items) was.bytes.scripts.items
  pub new_tree : change.new.tree ≡ tree_of now.suite.plan
  pub new_sites : change.new.sites ≡ now.sites
  pub new_texts : change.new.texts ≡ map (λ v. v.items) now.bytes.scripts.items
  pub altered : IsAlteration (suites was.suite.plan was.suite.world now.suite.plan now.suite.world)
      change.fates change.told change.gone
  pub property : IfSome change.property (StartsOtherwise was.suite.world now.suite.world)
  pub wrote : Wrote old new (change_text asked.paths change asked.folder.now missing)

-- What a change can alter was told, whole, or the paths alone: the change of the suite that stands
-- below the folder by the names of these files to the suite that these files are. What the files
-- below the folder hold isn't known, nor how many of them weren't there.
pub record IsToldFor (asked : Asked) (files : InputFiles) (input : Option (List ℕ))
    (old new : Account) : Type 0 where
  pub older : InputFiles
  pub below : AreBelow asked.folder.now files older
  pub before : Inputs
  pub before_are : AreFor older None before
  pub after : Inputs
  pub after_are : AreFor files input after
  pub was : Suite
  pub now : Suite
  pub change : ChangeView
  pub old_side : IsSideOf before was change.old
  pub new_side : IsSideOf after now change.new
  pub names : change.names ≡ texts_of files.scripts.items
  pub is : IsChangeOf was now change
  pub missing : ℕ
  pub wrote : Wrote old new (change_text asked.paths change asked.folder.now missing)

-- what a request asks for was done: its text was written, or the plan or the report for its files,
-- of a replay after some schedule
abbrev pub Did : Request → Option (List ℕ) → (old new : Account) → (ok : Bool) → Type 0
Did (Show text) input old new ok = (ok ≡ true) × Wrote old new (string_bytes text)
Did (Plan tests places why files) input old new ok =
    IsPrintedFor (record { tests = tests; places = places; why = why }) files input old new ok
Did (Conflicts files) input old new ok = IsWrittenFor suite_conflicts files input Serial old new ok
Did (Check files) input old new ok = (ok ≡ true) × (new ≡ old) × IsAcceptedFor files input
Did (Affected folder paths files) input old new ok =
    (ok ≡ true) × IsToldFor (record { folder = folder; paths = paths }) files input old new
Did (Settings name processors explain) input old new ok =
    (ok ≡ true) × IsListedFor name processors old new
Did (Run serial extras files) input old new ok =
    IsWrittenFor suite_report files input (way_of serial) old new ok
Did (Replay name extras files) input old new ok = (schedule : Bor (List ℕ))
    × IsWrittenFor suite_report files input (BySchedule schedule) old new ok

-- What some request asks for was done, without words that of a plain run.
pub record Answered {A : Type 0} (words : List A) (input : Option (List ℕ)) (old new : Account)
    (ok : Bool) : Type 0 where
  pub request : Request
  pub plain : words ≡ [] → IsPlainRun request
  pub did : Did request input old new ok

-- the files that are asked for besides, where they are named
abbrev pub files_asked : Extras → List (Option (Bor (List ℕ)))
files_asked extras =
    extras.failed ∷ extras.junit ∷ extras.html ∷ extras.«record» ∷ extras.trace ∷ []

-- the files that a request has written besides, where it names them
abbrev pub files_named : Request → List (Option (Bor (List ℕ)))
files_named (Show text) = []
files_named (Plan tests places why files) = []
files_named (Conflicts files) = []
files_named (Check files) = []
files_named (Affected folder paths files) = []
files_named (Settings name processors explain) = []
files_named (Run serial extras files) = files_asked extras
files_named (Replay name extras files) = files_asked extras

-- What a request asks for was done, and it names a file to be written besides.
abbrev pub DidBesides : Request → Option (List ℕ) → (old new : Account) → Type 0
DidBesides request input old new = (ok : Bool) × Did request input old new ok
    × NamesFile (files_named request)

-- What some request asks for was done, of those that name a file to be written besides.
pub record AnsweredBesides {A : Type 0} (words : List A) (input : Option (List ℕ))
    (old new : Account) : Type 0 where
  pub ok : Bool
  pub answered : Answered words input old new ok
  pub names : NamesFile (files_named answered.request)

-- How a command ended, by its exit status. What is left of an output that broke off is that it
-- failed, once.
pub record Ended {A : Type 0} (words : List A) (input : Option (List ℕ)) (old new : Account)
    (status : ℕ) : Type 0 where
  pub end : End
  pub status_is : status ≡ exit_status end
  pub leaves : Leaves (Answered words input old new) (AnsweredBesides words input old new)
      (HasFailed old.failures new.failures) old new end

-- The report of all of a script was written, whole, without settings and world and for one
-- processor, and the status tells of it.
pub record RanOn (script : List ℕ) (old new : Account) (status : ℕ) : Type 0 where
  pub files : InputFiles
  pub nothing : NamesNothing files
  pub serial : Bool
  pub ok : Bool
  pub written : IsWrittenFor suite_report files (Some script) (way_of serial) old new ok
  pub tells : status ≡ exit_status (Whole ok)

-- A plain run is refused: the inputs that were read for it have a cause of a fault that refuses
-- them.
pub record IsRefused (input : Option (List ℕ)) : Type 0 where
  pub files : InputFiles
  pub nothing : NamesNothing files
  pub serial : Bool
  pub inputs : Inputs
  pub are_for : AreFor files input inputs
  pub fault : RunFault
  pub refuses : run_end fault ≡ Refuses
  pub cause : Cause inputs (way_of serial) fault

-- whether a summary tells of skipped tests, too
abbrev pub tells_of_skipped : Summarized → Bool
tells_of_skipped Failed = false
tells_of_skipped All = true

-- the words of a command with these files that another one needs for the same results, by the
-- number of processors that were counted with
abbrev pub again_of : InputFiles → (processors : ℕ) → Again
again_of files processors =
    record {
      settings = files.settings;
      world = files.world;
      processors = option_map (λ asked. processors) files.processors;
    }

-- the commands that a page tells, of a command with these files, by the number of processors
-- that were counted with
abbrev pub page_commands : InputFiles → (processors : ℕ) → P.Commands
page_commands files processors =
    record { again = again_of files processors; named = not (length files.scripts.items == 0) }
