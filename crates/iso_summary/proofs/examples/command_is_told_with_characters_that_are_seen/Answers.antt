use Rattle.std.proofs.Common.{refl}
use Rattle.std.specs.Char.{encode_utf8}
use Rattle.std.specs.Fmt.{digits}
use Rattle.std.specs.Str.{chars}
use Rattle.iso_summary.proofs.Computing.{unseen}
use Rattle.iso_summary.proofs.examples.command_is_told_with_characters_that_are_seen.Goals as goal

pub returns-clause-next_line : goal.returns-clause-next_line
unfolding digits chars encode_utf8 unseen
returns-clause-next_line c = refl

pub returns-clause-command_start : goal.returns-clause-command_start
unfolding digits chars encode_utf8 unseen
returns-clause-command_start c = refl

pub returns-clause-wide_space : goal.returns-clause-wide_space
unfolding digits chars encode_utf8 unseen
returns-clause-wide_space c = refl

pub returns-clause-umlaut : goal.returns-clause-umlaut
unfolding digits chars encode_utf8 unseen
returns-clause-umlaut c = refl

pub returns-clause-turned : goal.returns-clause-turned
unfolding digits chars encode_utf8 unseen
returns-clause-turned c = refl

pub returns-clause-long_dash : goal.returns-clause-long_dash
unfolding digits chars encode_utf8 unseen
returns-clause-long_dash c = refl
