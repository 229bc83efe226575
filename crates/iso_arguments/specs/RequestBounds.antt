-- What a request asks for.
--
-- plain run, number of processors: A run of all of one script from standard input, without settings
-- or world, counting with one processor (`NamesNothing`, `IsPlainRun`); a request counts with 1 to
-- 1024 (`IsCount`).
use Rattle.std.specs.Prelude.{◌≡◌, ℕ, ◌≤◌, [], None, Option, IfSome, false, ⊤}
use Rattle.iso_arguments.specs.declared.processors.Processors.{Processors}
use Rattle.iso_arguments.specs.declared.processors.Processors.TheVariants.{Count, Auto}
use Rattle.iso_arguments.specs.declared.request.Extras.{Extras}
use Rattle.iso_arguments.specs.declared.request.InputFiles.{InputFiles}
use Rattle.iso_arguments.specs.declared.request.Request.{Request}
use Rattle.iso_arguments.specs.declared.request.Request.TheVariants.{Run, Plan, Conflicts, Replay, Check, Affected, Settings, Show}
use Rattle.iso_arguments.specs.declared.shard.Shard.{Shard}

-- the numbers of processors that may be counted with
abbrev pub IsCount : ℕ → Type 0
IsCount n = (1 ≤ n) × (n ≤ 1024)

-- a number that is asked for is one of these
abbrev pub IsWithin : Processors → Type 0
IsWithin (Count n) = IsCount n
IsWithin Auto = ⊤

-- the shard that is asked for, if one is: it has a number among all, which are no more than a plan
-- has classes
abbrev pub IsShard : Option Shard → Type 0
IsShard asked =
    IfSome asked (λ shard. (1 ≤ shard.number) × (shard.number ≤ shard.of) × (shard.of ≤ 4095))

-- what is asked for with these files is such a number of processors and such a shard
abbrev pub AreInBounds : InputFiles → Type 0
AreInBounds files = IfSome files.processors IsWithin × IsShard files.shard

abbrev pub AsksInBounds : Request → Type 0
AsksInBounds (Run serial extras files) = AreInBounds files
AsksInBounds (Plan tests places why files) = AreInBounds files
AsksInBounds (Conflicts files) = AreInBounds files
AsksInBounds (Replay schedule extras files) = AreInBounds files
AsksInBounds (Check files) = AreInBounds files
AsksInBounds (Affected old paths files) = AreInBounds files
AsksInBounds (Settings settings processors explain) = IfSome processors IsWithin
AsksInBounds (Show text) = ⊤

-- the files of a request that names none, keeps all that there is, and counts with as many
-- processors as without a word
pub record NamesNothing (files : InputFiles) : Type 0 where
  pub settings : files.settings ≡ None
  pub world : files.world ≡ None
  pub scripts : files.scripts.items ≡ []
  pub only : files.only.items ≡ []
  pub patterns : files.patterns.items ≡ []
  pub only_from : files.only_from ≡ None
  pub shard : files.shard ≡ None
  pub processors : files.processors ≡ None
  pub explain : files.explain ≡ false

-- nothing is asked for besides the report
abbrev pub AsksForNoMore : Extras → Type 0
AsksForNoMore extras =
    (extras.summary ≡ None) × (extras.failed ≡ None) × (extras.junit ≡ None) × (extras.html ≡ None)
    × (extras.github ≡ false)
    × (extras.durations ≡ None) × (extras.«record» ≡ None) × (extras.trace ≡ None)
    × (extras.stats ≡ false) × (extras.progress ≡ false)

-- a run of all of one script from standard input, without settings or world, without a number of
-- processors, and nothing besides its report
abbrev pub IsPlainRun : Request → Type 0
IsPlainRun (Run serial extras files) = NamesNothing files × AsksForNoMore extras
IsPlainRun (Plan tests places why files) = ⊥
IsPlainRun (Conflicts files) = ⊥
IsPlainRun (Replay schedule extras files) = ⊥
IsPlainRun (Check files) = ⊥
IsPlainRun (Affected old paths files) = ⊥
IsPlainRun (Settings settings processors explain) = ⊥
IsPlainRun (Show text) = ⊥
