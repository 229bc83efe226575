use Rattle.std.proofs.Common.{refl}
use Rattle.iso_plan.specs.Paths.{path}
use Rattle.std.specs.Char.{encode_utf8}
use Rattle.std.specs.Str.{chars}
use Rattle.iso_summary.proofs.Computing.{unseen}
use Rattle.iso_html.proofs.examples.locks_stand_behind_the_mode.Goals as goal

pub returns-clause-class : goal.returns-clause-class
unfolding chars encode_utf8 path unseen
returns-clause-class c = refl

pub returns-clause-test : goal.returns-clause-test
unfolding chars encode_utf8 path unseen
returns-clause-test c = refl
