use Rattle.std.proofs.Common.{refl}
use Rattle.std.specs.Fmt.{digits}
use Rattle.iso_commands.proofs.examples.command_has_all_words.Goals as goal

pub returns : goal.returns
unfolding digits
returns c = refl
