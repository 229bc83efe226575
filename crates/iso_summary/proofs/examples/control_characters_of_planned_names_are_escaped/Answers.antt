use Rattle.std.proofs.Common.{refl}
use Rattle.std.specs.Char.{encode_utf8}
use Rattle.std.specs.Str.{chars}
use Rattle.iso_summary.proofs.examples.control_characters_of_planned_names_are_escaped.Goals as goal

pub returns-clause-controls : goal.returns-clause-controls
unfolding chars encode_utf8
returns-clause-controls c = refl

pub returns-clause-turned : goal.returns-clause-turned
unfolding chars encode_utf8
returns-clause-turned c = refl
