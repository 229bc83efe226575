-- The parts of a command.
use Rattle.std.specs.Prelude.{ℕ, List, [], ◌++◌, Option, None, Some, codes, flat_map}
use Rattle.std.specs.Fmt.{decimal}
use Rattle.std.specs.Option.{option_map}
use Rattle.iso_arguments.specs.declared.shard.Shard.{Shard}
use Rattle.iso_commands.specs.Lent.{lent}
use Rattle.iso_commands.specs.declared.part.Part.{Part}
use Rattle.iso_commands.specs.declared.part.Part.TheVariants.{Plain, File, FileOption, NumberOption, Words, ShardOption, Files}
use Rattle.iso_summary.specs.Lines.{file_option, number_option}
use Rattle.iso_summary.specs.Words.{file_word, shell_word}

-- an option once for each of these words
abbrev pub each_word : (option : List ℕ) → (words : List (List ℕ)) → List ℕ
each_word option words = flat_map (λ word. option ++ shell_word word) words

-- each of these files, behind a space
abbrev pub each_file : (names : List (List ℕ)) → List ℕ
each_file names = flat_map (λ name. codes " " ++ file_word name) names

-- the option of a shard, where one was given
abbrev pub shard_option : Option Shard → List ℕ
shard_option None = []
shard_option (Some shard) =
    codes " --shard " ++ decimal shard.number ++ codes "/" ++ decimal shard.of

-- a part as text
abbrev pub part_text : Part → List ℕ
part_text (Plain text) = text.now
part_text (File name) = file_word name.now
part_text (FileOption option name) = file_option option.now (option_map (λ n. n.now) name)
part_text (NumberOption option number) = number_option option.now number
part_text (Words option words) = each_word option.now (lent words.now)
part_text (ShardOption shard) = shard_option shard
part_text (Files names) = each_file (lent names.now)
