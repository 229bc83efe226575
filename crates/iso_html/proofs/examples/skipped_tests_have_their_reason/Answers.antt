use Rattle.std.proofs.Common.{refl}
use Rattle.iso_plan.specs.Paths.{path}
use Rattle.std.specs.Char.{encode_utf8}
use Rattle.std.specs.Fmt.{digits}
use Rattle.std.specs.Str.{chars}
use Rattle.iso_summary.proofs.Computing.{unseen}
use Rattle.iso_html.proofs.examples.skipped_tests_have_their_reason.Goals as goal

pub returns : goal.returns
unfolding digits chars encode_utf8 path unseen
returns c = refl
