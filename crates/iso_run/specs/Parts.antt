-- What stands on standard error after a report, part by part.
use Rattle.std.specs.Prelude.{ℕ, List}
use Rattle.iso_commands.specs.Replays.{recorded_of, replay_line, too_large_line}
use Rattle.iso_run.specs.declared.parts.Part.{Part}
use Rattle.iso_run.specs.declared.parts.Part.TheVariants.{Text, Replay, TooLarge}

-- a part as text
abbrev pub text_of : Part → List ℕ
text_of (Text text) = text.now
text_of (Replay run) = replay_line (recorded_of run)
text_of (TooLarge name) = too_large_line name.now
