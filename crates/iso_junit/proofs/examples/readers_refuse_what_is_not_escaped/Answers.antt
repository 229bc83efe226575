use Rattle.std.proofs.Common.{refl}
use Rattle.iso_plan.specs.Paths.{path}
use Rattle.std.specs.Char.{encode_utf8}
use Rattle.std.specs.Fmt.{digits}
use Rattle.std.specs.Str.{chars}
use Rattle.iso_junit.proofs.examples.readers_refuse_what_is_not_escaped.Goals as goal

pub returns-clause-less : goal.returns-clause-less
unfolding digits chars encode_utf8 path
returns-clause-less c = refl

pub returns-clause-quote : goal.returns-clause-quote
unfolding digits chars encode_utf8 path
returns-clause-quote c = refl

pub returns-clause-line_feed : goal.returns-clause-line_feed
unfolding digits chars encode_utf8 path
returns-clause-line_feed c = refl

pub returns-clause-ampersand : goal.returns-clause-ampersand
unfolding digits chars encode_utf8 path
returns-clause-ampersand c = refl

pub returns-clause-unknown : goal.returns-clause-unknown
unfolding digits chars encode_utf8 path
returns-clause-unknown c = refl

pub returns-clause-open : goal.returns-clause-open
unfolding digits chars encode_utf8 path
returns-clause-open c = refl

pub returns-clause-read : goal.returns-clause-read
unfolding digits chars encode_utf8 path
returns-clause-read c = refl
