use Rattle.std.proofs.Common.{refl}
use Rattle.std.specs.Char.{encode_utf8}
use Rattle.std.specs.Fmt.{digits}
use Rattle.std.specs.Str.{chars}
use Rattle.iso_summary.proofs.Computing.{unseen}
use Rattle.iso_summary.proofs.examples.failed_class_tells_what_it_blocks.Goals as goal

pub returns-clause-many : goal.returns-clause-many
unfolding digits chars encode_utf8 unseen
returns-clause-many c = refl

pub returns-clause-one : goal.returns-clause-one
unfolding digits chars encode_utf8 unseen
returns-clause-one c = refl
