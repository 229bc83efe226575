-- The command that replays a recorded run.
--
-- command that replays a run: The words of a recorded run, as a shell reads them (`replay_line`),
-- where that can be told (`can_be_told`): a script is named, nothing is read from standard input,
-- and no word has a character that no reader sees (`has_unseen_option`, `has_unseen_word`); the
-- line of one whose schedule is longer than what is replayed (`too_large_line`).
-- Also in: `Parts`.
use Rattle.std.specs.Prelude.{ℕ, List, [], ◌∷◌, ◌++◌, Option, None, Some, Bool, false, not, ◌&&◌, ◌||◌, ◌==◌, codes, length, option_map}
use Rattle.std.specs.List.{list_any}
use Rattle.iso_arguments.specs.declared.request.InputFiles.{InputFiles}
use Rattle.iso_arguments.specs.declared.shard.Shard.{Shard}
use Rattle.iso_commands.specs.Lent.{lent}
use Rattle.iso_commands.specs.Parts.{each_file, each_word, shard_option}
use Rattle.iso_commands.specs.declared.replay.Recorded.{Recorded}
use Rattle.iso_summary.specs.Lines.{file_option, line, number_option}
use Rattle.iso_summary.specs.Names.{shown_name}
use Rattle.iso_summary.specs.Unseen.{given_has_unseen, has_unseen}
use Rattle.iso_summary.specs.Words.{file_word}

-- a recorded run: the file of its schedule, and the words of its command that decide its results;
-- files are told by their names as they were given
pub record RecordedView : Type 0 where
  pub schedule : List ℕ
  pub settings : Option (List ℕ)
  pub world : Option (List ℕ)
  pub processors : Option ℕ
  pub only : List (List ℕ)
  pub patterns : List (List ℕ)
  pub only_from : Option (List ℕ)
  pub shard : Option Shard
  pub scripts : List (List ℕ)

-- of these files, by the number of processors that were counted with, and the schedule is in a file
-- of this name
abbrev pub recorded : InputFiles → (processors : ℕ) → (name : List ℕ) → RecordedView
recorded files processors name =
    record {
      schedule = name;
      settings = option_map (λ f. f.now) files.settings;
      world = option_map (λ f. f.now) files.world;
      processors = option_map (λ asked. processors) files.processors;
      only = lent files.only.items;
      patterns = lent files.patterns.items;
      only_from = option_map (λ f. f.now) files.only_from;
      shard = files.shard;
      scripts = lent files.scripts.items;
    }

abbrev pub recorded_of : Recorded → RecordedView
recorded_of run = recorded run.files.now run.processors run.schedule.now

-- the command, with the same settings, world, processors, selections and scripts
abbrev pub replay_line : RecordedView → List ℕ
replay_line run =
    line
    (codes "replay: jtap replay --schedule "
    ∷ file_word run.schedule
    ∷ file_option (codes " --settings ") run.settings
    ∷ file_option (codes " --world ") run.world
    ∷ number_option (codes " --processors ") run.processors
    ∷ each_word (codes " --only ") run.only
    ∷ each_word (codes " --match ") run.patterns
    ∷ file_option (codes " --only-from ") run.only_from
    ∷ shard_option run.shard
    ∷ each_file run.scripts
    ∷ [])

-- whether one of these words has one
abbrev pub has_unseen_in : List (List ℕ) → Bool
has_unseen_in words = list_any has_unseen words

-- whether a name is that of standard input
abbrev pub is_dash : List ℕ → Bool
is_dash [] = false
is_dash (b ∷ []) = b == 45
is_dash (b ∷ c ∷ bs) = false

-- whether a file was given that is standard input
abbrev pub is_stdin : Option (List ℕ) → Bool
is_stdin None = false
is_stdin (Some name) = is_dash name

-- whether some file of an option has a character that no reader sees
abbrev pub has_unseen_option : RecordedView → Bool
has_unseen_option run = has_unseen run.schedule
    || (given_has_unseen run.settings
    || (given_has_unseen run.world || given_has_unseen run.only_from))

-- whether some path, pattern or script has one
abbrev pub has_unseen_word : RecordedView → Bool
has_unseen_word run =
    has_unseen_in run.only || (has_unseen_in run.patterns || has_unseen_in run.scripts)

-- whether the command can be told: a script is named, nothing is read from standard input, and no
-- word has a character that no reader sees
abbrev pub can_be_told : RecordedView → Bool
can_be_told run = not (length run.scripts == 0)
    && (not (is_stdin run.only_from) && (not (has_unseen_option run) && not (has_unseen_word run)))

-- the line of a run whose schedule, in a file of this name, is longer than what is replayed
abbrev pub too_large_line : List ℕ → List ℕ
too_large_line name = codes "jtap: " ++ shown_name name ++ codes ": too large to replay\n"
