use Rattle.std.proofs.Common.{refl}
use Rattle.std.specs.Char.{encode_utf8}
use Rattle.std.specs.Fmt.{digits}
use Rattle.std.specs.Str.{chars}
use Rattle.iso_summary.proofs.Computing.{unseen}
use Rattle.iso_summary.proofs.examples.command_is_told_where_it_can_be_pasted.Goals as goal

pub returns-clause-stdin : goal.returns-clause-stdin
unfolding digits chars encode_utf8 unseen
returns-clause-stdin c = refl

pub returns-clause-script : goal.returns-clause-script
unfolding digits chars encode_utf8 unseen
returns-clause-script c = refl

pub returns-clause-settings : goal.returns-clause-settings
unfolding digits chars encode_utf8 unseen
returns-clause-settings c = refl
