use Rattle.std.proofs.Common.{refl}
use Rattle.iso_plan.specs.Paths.{path}
use Rattle.std.specs.Char.{encode_utf8}
use Rattle.std.specs.Fmt.{digits}
use Rattle.std.specs.Str.{chars}
use Rattle.iso_summary.proofs.Computing.{unseen}
use Rattle.iso_html.proofs.examples.line_that_ended_a_block_is_marked.Goals as goal

pub returns-clause-some : goal.returns-clause-some
unfolding digits chars encode_utf8 path unseen
returns-clause-some c = refl

pub returns-clause-none : goal.returns-clause-none
returns-clause-none c = refl
