use Rattle.std.proofs.Common.{refl}
use Rattle.std.specs.Fmt.{digits}
use Rattle.std.specs.Char.{encode_utf8}
use Rattle.std.specs.Str.{chars}
use Rattle.iso_summary.proofs.Computing.{unseen}
use Rattle.iso_explain_plan.proofs.examples.both_classes_are_told.Goals as goal

pub returns-clause-two : goal.returns-clause-two
unfolding digits chars encode_utf8 unseen
returns-clause-two c = refl

pub returns-clause-twice : goal.returns-clause-twice
unfolding digits chars encode_utf8 unseen
returns-clause-twice c = refl
