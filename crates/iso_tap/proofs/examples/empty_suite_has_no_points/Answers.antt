use Rattle.std.proofs.Common.{refl}
use Rattle.std.specs.Fmt.{digits}
use Rattle.iso_tap.proofs.examples.empty_suite_has_no_points.Goals as goal

pub returns-clause-report : goal.returns-clause-report
unfolding digits
returns-clause-report c = refl

pub returns-clause-ok : goal.returns-clause-ok
unfolding digits
returns-clause-ok c = refl
