use Rattle.std.proofs.Common.{refl}
use Rattle.iso_plan.specs.Paths.{path}
use Rattle.std.specs.Char.{encode_utf8}
use Rattle.std.specs.Fmt.{digits}
use Rattle.std.specs.Str.{chars}
use Rattle.iso_summary.proofs.Computing.{unseen}
use Rattle.iso_junit.proofs.examples.times_are_told_in_seconds.Goals as goal

pub returns-clause-none : goal.returns-clause-none
unfolding digits chars encode_utf8 path unseen
returns-clause-none c = refl

pub returns-clause-some : goal.returns-clause-some
unfolding digits chars encode_utf8 path unseen
returns-clause-some c = refl

pub returns-clause-long : goal.returns-clause-long
unfolding digits chars encode_utf8 path unseen
returns-clause-long c = refl

pub returns-clause-zero : goal.returns-clause-zero
unfolding digits chars encode_utf8 path unseen
returns-clause-zero c = refl

pub returns-clause-sum : goal.returns-clause-sum
unfolding digits chars encode_utf8 path unseen
returns-clause-sum c = refl

pub returns-clause-nothing : goal.returns-clause-nothing
unfolding digits chars encode_utf8 path unseen
returns-clause-nothing c = refl

pub returns-clause-greatest : goal.returns-clause-greatest
unfolding digits chars encode_utf8 path unseen
returns-clause-greatest c = refl
