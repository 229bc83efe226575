use Rattle.std.proofs.Common.{refl}
use Rattle.std.specs.Fmt.{digits}
use Rattle.iso_record.proofs.examples.events_have_a_line_each.Goals as goal

pub returns-clause-each : goal.returns-clause-each
unfolding digits
returns-clause-each c = refl

pub returns-clause-none : goal.returns-clause-none
returns-clause-none c = refl
