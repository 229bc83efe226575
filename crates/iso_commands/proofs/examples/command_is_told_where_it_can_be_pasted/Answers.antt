use Rattle.std.proofs.Common.{refl}
use Rattle.std.specs.Char.{encode_utf8}
use Rattle.std.specs.Str.{chars}
use Rattle.iso_summary.proofs.Computing.{unseen}
use Rattle.iso_commands.proofs.examples.command_is_told_where_it_can_be_pasted.Goals as goal

pub returns-clause-named : goal.returns-clause-named
unfolding chars encode_utf8 unseen
returns-clause-named c = refl

pub returns-clause-control : goal.returns-clause-control
unfolding chars encode_utf8 unseen
returns-clause-control c = refl

pub returns-clause-turned : goal.returns-clause-turned
unfolding chars encode_utf8 unseen
returns-clause-turned c = refl

pub returns-clause-dash : goal.returns-clause-dash
unfolding chars encode_utf8 unseen
returns-clause-dash c = refl
